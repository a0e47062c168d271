-- `writer_cards::play::put_play` meets its contract: a turn takes one card, and what stands before it, off what is left to write.
use lib.ListN.{drop}
use Rattle.lin_spec.specs.Play.{play_text}
use Rattle.output.proofs.Laws.{Left}
use Rattle.writer_cards.proofs.PlayLaws.{words_from}
use Rattle.writer_cards.proofs.play.put_play.Given as goal

abbrev pub invariant-loop-i : goal.invariant-loop-i
invariant-loop-i l = Left l.out l.o (words_from l.i (drop l.i l.cards)) l.initial.out 0 (play_text l.cards)
