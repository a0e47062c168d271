-- `text::index::next_ill` meets its contract. The loop's invariant: there are whole characters from a up to i. The measure is what is left of the block.
use Prim.Native.Nat.{◌-◌}
use Rattle.text.specs.Utf8.{Past}
use Rattle.text.proofs.index.next_ill.Given as goal

abbrev pub invariant-loop-i : goal.invariant-loop-i
invariant-loop-i l = Past l.text l.a l.i

abbrev pub decreases-loop-i : goal.decreases-loop-i
decreases-loop-i l = l.end - l.i
