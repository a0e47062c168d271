-- `digits::read_number` meets its contract: a turn takes one digit off what is left to count.
use Rattle.digits.proofs.DigitLaws.{Counted}
use Rattle.digits.proofs.digits.read_number.Given as goal

abbrev pub invariant-loop-b : goal.invariant-loop-b
invariant-loop-b l = Counted l.t l.top l.b-index l.n
