-- `writer_cards::put_tricks` meets its contract: a turn takes one card, and what follows it, off what is left to write.
use Prim.Native.Nat.{◌+◌}
use mathlib.Core.List.{◌++◌}
use native.Mathlib.Omega.{arith}
use lib.ListN.{length, get_or, drop}
use Rattle.lin_spec.specs.Writer.{card_text, tricks_text}
use Rattle.output.proofs.Laws.{Left, start, roomy, step, finish}
use Rattle.writer_cards.specs.Tricks.{trick_end}
use Rattle.writer_cards.proofs.TrickLaws.{tricks_from, tricks-from, tricks_cons, tricks-end, good_card}
use Rattle.writer_cards.proofs.tricks.put_tricks.Goals as goal

pub loop-i-init : goal.loop-i-init
loop-i-init c = rw (tricks-from (length c.args.cards.now) 0 c.args.cards.now (omega arith) (omega arith)) (start c.requires.0)

pub put_pc-a-requires : goal.put_pc-a-requires
put_pc-a-requires c =
    let turn : (let cs = c.args.cards.now in let i = c.loop-i.i in Left c.loop-i.out c.loop-i.o (card_text (get_or cs i 0) ++ (trick_end (i + 1) (length cs) ++ tricks_from (length cs) (i + 1) (drop (i + 1) cs))) c.args.out.now c.args.at (tricks_text cs)) = rw (tricks_cons _ _ _ c.loop-i-test.true) at c.loop-i.invariant in
    (roomy _ _ (turn), good_card _ c.requires.1 _ c.loop-i-test.true)

pub put_trick_end-o-requires : goal.put_trick_end-o-requires
put_trick_end-o-requires c =
    let turn : (let cs = c.args.cards.now in let i = c.loop-i.i in Left c.loop-i.out c.loop-i.o (card_text (get_or cs i 0) ++ (trick_end (i + 1) (length cs) ++ tricks_from (length cs) (i + 1) (drop (i + 1) cs))) c.args.out.now c.args.at (tricks_text cs)) = rw (tricks_cons _ _ _ c.loop-i-test.true) at c.loop-i.invariant in
    roomy _ _ (step (turn) c.put_pc-a.ensures)

pub loop-i-preserved : goal.loop-i-preserved
loop-i-preserved c =
    let turn : (let cs = c.args.cards.now in let i = c.loop-i.i in Left c.loop-i.out c.loop-i.o (card_text (get_or cs i 0) ++ (trick_end (i + 1) (length cs) ++ tricks_from (length cs) (i + 1) (drop (i + 1) cs))) c.args.out.now c.args.at (tricks_text cs)) = rw (tricks_cons _ _ _ c.loop-i-test.true) at c.loop-i.invariant in
    step (step (turn) c.put_pc-a.ensures) c.put_trick_end-o.ensures

pub shape_of-out : goal.shape_of-out
shape_of-out c = c.loop-i.invariant.long

pub returns : goal.returns
returns c = finish (rw (tricks-end _ _ _ c.loop-i-test.false) at c.loop-i.invariant)
