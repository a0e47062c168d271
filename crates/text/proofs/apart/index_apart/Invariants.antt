-- `text::index_apart` meets its contract. The loop's invariant: the blocks before k have their words. The measure is what is left of the blocks.
use Prim.Native.Nat.{◌-◌}
use mathlib.Core.Path.{◌≡◌}
use lib.ListN.{length}
use Rattle.text.proofs.ApartLaws.{Made}
use Rattle.text.proofs.apart.index_apart.Given as goal

abbrev pub invariant-loop-k : goal.invariant-loop-k
invariant-loop-k l = Made l.a l.b l.next l.k × (length l.next ≡ length l.initial.next)

abbrev pub decreases-loop-k : goal.decreases-loop-k
decreases-loop-k l = length l.next - l.k
