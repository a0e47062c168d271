-- `text::sixteens::sixteens_end` meets its contract. The loop's invariant: what is left decides. The measure is what is left of the length.
use Prim.Native.Nat.{◌-◌, ◌≤◌}
use mathlib.Core.Path.{◌≡◌}
use lib.ListN.{length}
use Rattle.text.specs.Apart.{next_apart}
use Rattle.text.proofs.sixteens.sixteens_same.Given as goal

abbrev pub invariant-loop-i : goal.invariant-loop-i
invariant-loop-i l = (next_apart l.a l.b l.i ≡ next_apart l.a l.b l.from) × (l.m ≤ length l.a) × (l.m ≤ length l.b)

abbrev pub decreases-loop-i : goal.decreases-loop-i
decreases-loop-i l = length l.a - l.i
