-- `accents::full::mapped_len` meets its contract. The loop's invariant: n are counted up to i. The measure is what is left of the length.
use Prim.Native.Nat.{◌-◌}
use lib.ListN.{length}
use Rattle.accents.proofs.FullLaws.{Counted}
use Rattle.accents.proofs.full.mapped_len.Given as goal

abbrev pub invariant-loop-i : goal.invariant-loop-i
invariant-loop-i l = Counted l.s l.n l.i

abbrev pub decreases-loop-i : goal.decreases-loop-i
decreases-loop-i l = length l.s - l.i
