-- `writer_cards::put_tricks` meets its contract: a turn takes one card, and what follows it, off what is left to write.
use lib.ListN.{length, drop}
use Rattle.lin_spec.specs.Writer.{tricks_text}
use Rattle.output.proofs.Laws.{Left}
use Rattle.writer_cards.proofs.TrickLaws.{tricks_from}
use Rattle.writer_cards.proofs.tricks.put_tricks.Given as goal

abbrev pub invariant-loop-i : goal.invariant-loop-i
invariant-loop-i l = Left l.out l.o (tricks_from (length l.cards) l.i (drop l.i l.cards)) l.initial.out l.at (tricks_text l.cards)
