-- `pbn_annotation::put_annotation_words` meets its contract: a turn takes one part off what is left to put.
use Prim.Native.Nat.{◌<◌}
use native.Mathlib.Omega.{arith}
use lib.ListN.{length}
use borrow.Author.Rules.{rules}
use borrow.Author.Tests.{tests}
use Rattle.output.proofs.Laws.{roomy, finish}
use Rattle.pbn_annotation.proofs.AnnotationLaws.{part_moves, put_start, put_left, put_turn, put_end}
use Rattle.pbn_annotation.proofs.texts.put_annotation_words.Goals as goal

pub loop-rest-init : goal.loop-rest-init
loop-rest-init c = (omega arith, put_start c.args.text.now c.args.notes.now c.args.raw.now c.requires)

pub put_spaced_word-o-requires : goal.put_spaced_word-o-requires
put_spaced_word-o-requires c = let s = c.split_at in
    let h : 0 < length c.loop-rest.rest.now = search (rules, tests) in
    roomy _ _ (put_left c.args.text.now c.args.notes.now c.loop-rest.rest.now h _ c.part_len.ensures s.result.0.now s.result.1.now s.ensures.front s.ensures.back _ c.part_word.ensures c.loop-rest.invariant.0 c.loop-rest.invariant.1)

pub loop-rest-smaller : goal.loop-rest-smaller
loop-rest-smaller c = let h : 0 < length c.loop-rest.rest.now = search (rules, tests) in
    omega (arith, part_moves c.args.text.now c.args.notes.now c.loop-rest.rest.now h _ c.part_len.ensures, c.split_at.ensures.back_len)

pub loop-rest-preserved : goal.loop-rest-preserved
loop-rest-preserved c = let s = c.split_at in
    let h : 0 < length c.loop-rest.rest.now = search (rules, tests) in
    put_turn c.args.text.now c.args.notes.now c.loop-rest.rest.now h _ c.part_len.ensures s.result.0.now s.result.1.now s.ensures.front s.ensures.back _ c.part_word.ensures c.loop-rest.invariant.0 c.loop-rest.invariant.1 c.put_spaced_word-o.ensures

pub returns : goal.returns
returns c = finish (put_end c.args.text.now c.args.notes.now c.loop-rest.rest.now (search (rules, tests)) c.loop-rest.invariant.1)
