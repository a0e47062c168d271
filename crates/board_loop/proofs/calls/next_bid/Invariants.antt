-- `board_loop::next_bid` meets its contract: a turn takes a token that is no mb off those that are still to be read.
use Rattle.board_loop.specs.Calls.{calls_from}
use Rattle.lin_spec.specs.Reading.{stream}
use lib.ListN.{length}
use mathlib.Core.Path.{◌≡◌}
use Prim.Native.Nat.{◌-◌}
use Rattle.board_loop.proofs.calls.next_bid.Given as goal

abbrev pub invariant-loop-k : goal.invariant-loop-k
invariant-loop-k l = calls_from l.text (stream l.text l.c.at) ≡ calls_from l.text (stream l.text l.initial.c.at)

abbrev pub decreases-loop-k : goal.decreases-loop-k
decreases-loop-k l = length l.text - l.c.at
