-- `accents::marks::same_classes` meets its contract. The loop's invariant: the classes so far are the same.
use Rattle.accents.proofs.MarkLaws.{Same}
use Rattle.accents.proofs.marks.same_classes.Given as goal

abbrev pub invariant-loop-k : goal.invariant-loop-k
invariant-loop-k l = Same l.x l.y l.k-index
