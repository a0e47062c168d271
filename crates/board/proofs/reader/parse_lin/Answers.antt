-- `board::parse_lin` meets its contract.
use Rattle.board.proofs.ReaderLaws.{short, board-read, board-refused}
use Rattle.lin_spec.proofs.Checks.{handed}
use native.Mathlib.Omega.{arith}
use mathlib.Core.Path.{◌∙◌}
use Rattle.board.proofs.reader.parse_lin.Goals as goal

pub board_at-requires : goal.board_at-requires
board_at-requires c = (omega arith, short _ _ c.open.ensures _ c.in_ok-open.was)

pub returns-in_err-open : goal.returns-in_err-open
returns-in_err-open c = board-refused _ _ c.open.ensures _ c.in_err-open.was _ (handed _ _ c.from_residual.ensures) _ _

pub returns : goal.returns
returns c = c.board_at.ensures ∙ board-read _ _ c.open.ensures _ c.in_ok-open.was _ _
