-- `auction::check_calls` meets its contract: the checks of a fresh board with these calls, then the bids.
use mathlib.Core.Path.{ap, ◌∙◌}
use Rattle.board_lent.specs.Heads.{head_of}
use Rattle.lin_spec.proofs.Checks.{handed}
use Rattle.auction.proofs.CheckLaws.{check_stops, check_goes_on}
use Rattle.auction.proofs.check.check_calls.Goals as goal

pub returns-in_err-check_board : goal.returns-in_err-check_board
returns-in_err-check_board c =
    handed _ _ c.from_residual.ensures
    ∙ check_stops _ _ _ _ _ (c.head_of-head.ensures ∙ ap head_of c.new.ensures) _ c.check_board.ensures _ c.in_err-check_board.was

pub returns : goal.returns
returns c =
    c.judge_calls.ensures
    ∙ check_goes_on _ _ _ _ _ (c.head_of-head.ensures ∙ ap head_of c.new.ensures) _ c.check_board.ensures c.in_ok-check_board.was
