-- `pbn_annotation::words_len` meets its contract: a turn takes one part off what is left to count.
use Prim.Native.Nat.{◌<◌}
use native.Mathlib.Omega.{arith}
use lib.ListN.{length}
use borrow.Author.Rules.{rules}
use borrow.Author.Tests.{tests}
use Rattle.pbn_annotation.proofs.AnnotationLaws.{part_moves, count-start, count_turn, count-end}
use Rattle.pbn_annotation.proofs.texts.words_len.Goals as goal

pub loop-rest-init : goal.loop-rest-init
loop-rest-init c = (count-start c.args.text.now c.args.notes.now c.args.raw.now, omega arith)

pub loop-rest-smaller : goal.loop-rest-smaller
loop-rest-smaller c = let h : 0 < length c.loop-rest.rest.now = search (rules, tests) in
    omega (arith, part_moves c.args.text.now c.args.notes.now c.loop-rest.rest.now h _ c.part_len.ensures, c.split_at.ensures.back_len)

pub loop-rest-preserved : goal.loop-rest-preserved
loop-rest-preserved c = let s = c.split_at in
    let h : 0 < length c.loop-rest.rest.now = search (rules, tests) in
    (count_turn c.args.text.now c.args.notes.now c.loop-rest.rest.now h _ c.part_len.ensures s.result.0.now s.result.1.now s.ensures.front s.ensures.back _ c.part_word.ensures _ _ _ c.word_len.ensures c.joined_len-n.ensures _ c.loop-rest.invariant.0, omega (arith, c.joined_len-n.ensures))

pub returns : goal.returns
returns c = count-end c.args.text.now c.args.notes.now c.loop-rest.rest.now (search (rules, tests)) _ _ c.loop-rest.invariant.1 c.loop-rest.invariant.0
