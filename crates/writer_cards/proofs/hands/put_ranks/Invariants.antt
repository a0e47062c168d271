-- `writer_cards::hands::put_ranks` meets its contract: a turn takes one rank off what is left to write.
use Prim.Native.Nat.{◌*◌}
use Rattle.lin_spec.specs.Records.{part}
use Rattle.lin_spec.specs.Writer.{ranks_from}
use Rattle.output.proofs.Laws.{Left}
use Rattle.writer_cards.proofs.hands.put_ranks.Given as goal

abbrev pub invariant-loop-r : goal.invariant-loop-r
invariant-loop-r l = Left l.out l.o (ranks_from (part l.counts (l.seat * 52) 52) (l.suit * 13) l.r) l.initial.out l.at (ranks_from (part l.counts (l.seat * 52) 52) (l.suit * 13) 13)
