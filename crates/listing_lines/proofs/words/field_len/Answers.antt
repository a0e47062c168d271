-- `listing_lines::field_len` meets its contract: a space and the digits.
use Rattle.listing_lines.proofs.LineLaws.{field-long}
use native.Mathlib.Omega.{arith}
use Rattle.listing_lines.proofs.words.field_len.Goals as goal

pub returns : goal.returns
returns c = omega (arith, field-long c.args.n, c.decimal_len.ensures, c.sat_add.ensures)
