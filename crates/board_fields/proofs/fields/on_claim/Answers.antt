-- `board_fields::on_claim` meets its contract: the number of the trimmed value, or none.
use Rattle.digits.proofs.DigitLaws.{number_most}
use native.Mathlib.Omega.{arith}
use Rattle.board_fields.proofs.fields.on_claim.Goals as goal

pub overflow_cast-result : goal.overflow_cast-result
overflow_cast-result c = omega (arith, number_most 255 _ _ _ c.read_number.ensures c.in-Some.is)
