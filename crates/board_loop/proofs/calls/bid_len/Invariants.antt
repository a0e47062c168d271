-- `board_loop::bid_len` meets its contract: a turn takes a mark off the end.
use Rattle.lin_spec.specs.Board.{without_end}
use lib.ListN.{length}
use mathlib.Core.Path.{◌≡◌}
use Prim.Native.Nat.{◌≤◌}
use Rattle.board_loop.proofs.calls.bid_len.Given as goal

abbrev pub invariant-loop-last : goal.invariant-loop-last
invariant-loop-last l = (without_end 0x21 l.rest ≡ without_end 0x21 l.value) × (length l.rest ≤ length l.value)

abbrev pub decreases-loop-last : goal.decreases-loop-last
decreases-loop-last l = length l.rest
