-- `output::put_decimal` meets its contract: a turn writes the last of the digits that are left, and the first is written after the loop.
use Rattle.output.proofs.DecimalLaws.{Back}
use Rattle.output.proofs.decimal.put_decimal.Given as goal

abbrev pub invariant-loop-rest : goal.invariant-loop-rest
invariant-loop-rest l = Back l.out l.o l.rest l.initial.out l.at l.n

abbrev pub decreases-loop-rest : goal.decreases-loop-rest
decreases-loop-rest l = l.rest
