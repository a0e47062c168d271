-- `board_lent::row_bounds` meets its contract: a turn looks at a row.
use mathlib.Core.Path.{◌≡◌}
use mathlib.Core.Bool.{◌||◌}
use lib.ListN.{drop}
use Rattle.lin_spec.specs.Base.{any}
use Rattle.lin_spec.specs.Refusals.{passes_end}
use Rattle.lin_spec.specs.Lent.{bad_flag}
use Rattle.board_lent.specs.Calls.{call_of, spans_of_call}
use Rattle.board_lent.proofs.checks.row_bounds.Given as goal

abbrev pub invariant-loop-row : goal.invariant-loop-row
invariant-loop-row l = ((l.number || any (λ r. bad_flag (call_of r)) (drop l.row-index l.row-items)) ≡ any (λ r. bad_flag (call_of r)) l.row-items)
    × ((l.past || any (λ r. any (passes_end l.text) (spans_of_call (call_of r))) (drop l.row-index l.row-items)) ≡ any (λ r. any (passes_end l.text) (spans_of_call (call_of r))) l.row-items)
