-- `output::decimal_len` meets its contract: a turn takes the last digit off and counts it.
use Rattle.lin_spec.specs.Decimal.{decimal}
use lib.ListN.{length}
use mathlib.Core.Path.{◌≡◌}
use Prim.Native.Nat.{◌+◌, ◌≤◌}
use Rattle.output.proofs.decimal.decimal_len.Given as goal

abbrev pub invariant-loop-rest : goal.invariant-loop-rest
invariant-loop-rest l = (l.k + length (decimal l.rest) ≡ length (decimal l.n) + 1) × (l.rest + l.k ≤ l.n + 1)

abbrev pub decreases-loop-rest : goal.decreases-loop-rest
decreases-loop-rest l = l.rest
