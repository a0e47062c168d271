-- `accents::marks::same_class` meets its contract. The loop's invariant: what is left is as much the same as the whole. The measure is what is left of the first.
use Prim.Native.Nat.{◌-◌}
use lib.ListN.{length}
use Rattle.accents.proofs.MarkLaws.{Along}
use Rattle.accents.proofs.marks.same_class.Given as goal

abbrev pub invariant-loop-i : goal.invariant-loop-i
invariant-loop-i l = Along l.k l.x l.y l.i l.j

abbrev pub decreases-loop-i : goal.decreases-loop-i
decreases-loop-i l = length l.x - l.i
