-- `board::parse_lin_heading` meets its contract.
use Rattle.std.specs.Prelude.{Ok}
use Rattle.board.proofs.ReaderLaws.{short, heading-read, heading-refused}
use Rattle.lin_spec.proofs.Checks.{handed}
use native.Mathlib.Omega.{arith}
use mathlib.Core.Path.{◌∙◌, ap}
use Rattle.board.proofs.reader.parse_lin_heading.Goals as goal

pub heading_at-requires : goal.heading_at-requires
heading_at-requires c = (omega arith, short _ _ c.open.ensures _ c.in_ok-open.was)

pub returns-in_err-open : goal.returns-in_err-open
returns-in_err-open c = heading-refused _ _ c.open.ensures _ c.in_err-open.was _ (handed _ _ c.from_residual.ensures)

pub returns : goal.returns
returns c = ap Ok c.heading_at.ensures ∙ heading-read _ _ c.open.ensures _ c.in_ok-open.was
