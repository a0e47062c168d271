-- `board_loop::next_note` meets its contract: a turn takes a token that is no mb off those that are still to be read.
use Rattle.std.specs.Prelude.{None}
use Rattle.board_loop.specs.Calls.{calls_after}
use Rattle.lin_spec.specs.Reading.{stream}
use Rattle.lin_spec.specs.declared.Span.{Span}
use Rattle.lin_spec.specs.Board.{CallOf}
use lib.ListN.{length}
use mathlib.Core.Path.{◌≡◌}
use Prim.Native.Nat.{◌-◌}
use Rattle.board_loop.proofs.calls.next_note.Given as goal

abbrev pub invariant-loop-k : goal.invariant-loop-k
invariant-loop-k l = (x : CallOf Span) → calls_after l.text x l.annotation (stream l.text l.c.at) ≡ calls_after l.text x None (stream l.text l.initial.c.at)

abbrev pub decreases-loop-k : goal.decreases-loop-k
decreases-loop-k l = length l.text - l.c.at
