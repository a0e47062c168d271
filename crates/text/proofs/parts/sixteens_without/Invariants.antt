-- `text::parts::sixteens_end` meets its contract. The loop's invariant: the first c from `i` on is the first from `from` on. The measure is what is left of the length.
use Prim.Native.Nat.{◌-◌}
use mathlib.Core.Path.{◌≡◌}
use lib.ListN.{length}
use Rattle.lin_spec.specs.Cursor.{find_from}
use Rattle.text.proofs.parts.sixteens_without.Given as goal

abbrev pub invariant-loop-i : goal.invariant-loop-i
invariant-loop-i l = find_from l.c l.s l.i ≡ find_from l.c l.s l.from

abbrev pub decreases-loop-i : goal.decreases-loop-i
decreases-loop-i l = length l.s - l.i
