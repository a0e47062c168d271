-- `text::index_text` meets its contract. The loop's invariant: the blocks before k have their words, and a run begins at `from`. The measure is what is left of
-- the text.
use Prim.Native.Nat.{◌+◌, ◌-◌}
use mathlib.Core.Path.{◌≡◌}
use lib.ListN.{length}
use Rattle.text.proofs.IndexLaws.{Made}
use Rattle.text.proofs.index.index_text.Given as goal

abbrev pub invariant-loop-from : goal.invariant-loop-from
invariant-loop-from l = (Made l.text l.next l.from l.k) × (length l.next ≡ length l.initial.next)

abbrev pub decreases-loop-from : goal.decreases-loop-from
decreases-loop-from l = length l.text + 1 - l.from
