-- `listing_lines::refusal_line_len` meets its contract: eight bytes, the digits and LF.
use Rattle.listing_lines.proofs.LineLaws.{refusal_long}
use Rattle.lin_spec.specs.Decimal.{decimal}
use Prim.Native.Nat.{ℕ}
use lib.ListN.{length}
use mathlib.Core.Path.{ap}
use native.Mathlib.Omega.{arith}
use Rattle.listing_lines.proofs.lines.refusal_line_len.Goals as goal

pub returns : goal.returns
returns c = omega (arith, refusal_long c.args.refusal, ap (λ (n : ℕ). length (decimal n)) c.number.ensures, c.decimal_len.ensures, c.sat_add.ensures)
