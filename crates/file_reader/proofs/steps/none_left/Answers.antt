-- `file_reader::none_left` meets its contract: 2 over what is left, if anything is.
use Rattle.lin_spec.proofs.Checks.{handed}
use Rattle.file_reader.proofs.StepLaws.{none_met, none_left, none_beyond}
use Rattle.file_reader.proofs.steps.none_left.Goals as goal

pub returns-in_err-check_utf8 : goal.returns-in_err-check_utf8
returns-in_err-check_utf8 c = none_met _ _ _ c.check_utf8.ensures _ c.in_err-check_utf8.was _ (handed _ _ c.from_residual.ensures)

pub returns-in_ok-check_utf8 : goal.returns-in_ok-check_utf8
returns-in_ok-check_utf8 c = none_left _ _ _ c.check_utf8.ensures c.in_ok-check_utf8.was

pub returns-else-at-text : goal.returns-else-at-text
returns-else-at-text c = none_beyond _ _ c.if-at-text.false
