-- `accents::marks::next_in` meets its contract. The loop's invariant: no mark of the class is passed.
use Rattle.accents.proofs.MarkLaws.{Passed}
use Rattle.accents.proofs.marks.next_in.Given as goal

abbrev pub invariant-loop-i : goal.invariant-loop-i
invariant-loop-i l = Passed l.k l.s l.from l.i
