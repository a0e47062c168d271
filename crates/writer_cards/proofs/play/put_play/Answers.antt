-- `writer_cards::play::put_play` meets its contract: a turn takes one card, and what stands before it, off what is left to write.
use Prim.Native.Nat.{◌+◌}
use mathlib.Core.List.{◌++◌}
use lib.ListN.{get_or, drop}
use Rattle.lin_spec.specs.Writer.{card_letters}
use Rattle.lin_spec.specs.Play.{play_text}
use Rattle.output.proofs.Laws.{Left, start, roomy, step, finish}
use Rattle.writer_cards.specs.Tricks.{before_card}
use Rattle.writer_cards.proofs.TrickLaws.{good_card}
use Rattle.writer_cards.proofs.PlayLaws.{words_from, play-from, words_cons, words-end}
use Rattle.writer_cards.proofs.play.put_play.Goals as goal

pub loop-i-init : goal.loop-i-init
loop-i-init c = rw (play-from c.args.cards.now) (start c.requires.0)

pub put_between-a-requires : goal.put_between-a-requires
put_between-a-requires c =
    let turn : (let cs = c.args.cards.now in let i = c.loop-i.i in Left c.loop-i.out c.loop-i.o (before_card i ++ (card_letters (get_or cs i 0) ++ words_from (i + 1) (drop (i + 1) cs))) c.args.out.now 0 (play_text cs)) = rw (words_cons _ _ c.loop-i-test.true) at c.loop-i.invariant in
    roomy _ _ (turn)

pub put_card_letters-o-requires : goal.put_card_letters-o-requires
put_card_letters-o-requires c =
    let turn : (let cs = c.args.cards.now in let i = c.loop-i.i in Left c.loop-i.out c.loop-i.o (before_card i ++ (card_letters (get_or cs i 0) ++ words_from (i + 1) (drop (i + 1) cs))) c.args.out.now 0 (play_text cs)) = rw (words_cons _ _ c.loop-i-test.true) at c.loop-i.invariant in
    (roomy _ _ (step (turn) c.put_between-a.ensures), good_card _ c.requires.1 _ c.loop-i-test.true)

pub loop-i-preserved : goal.loop-i-preserved
loop-i-preserved c =
    let turn : (let cs = c.args.cards.now in let i = c.loop-i.i in Left c.loop-i.out c.loop-i.o (before_card i ++ (card_letters (get_or cs i 0) ++ words_from (i + 1) (drop (i + 1) cs))) c.args.out.now 0 (play_text cs)) = rw (words_cons _ _ c.loop-i-test.true) at c.loop-i.invariant in
    step (step (turn) c.put_between-a.ensures) c.put_card_letters-o.ensures

pub shape_of-out : goal.shape_of-out
shape_of-out c = c.loop-i.invariant.long

pub returns : goal.returns
returns c = finish (rw (words-end _ _ c.loop-i-test.false) at c.loop-i.invariant)
