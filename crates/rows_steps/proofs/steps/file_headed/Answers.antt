use mathlib.Core.Path.{refl}
use Rattle.file.proofs.NumberLaws.{given}
use Rattle.lin_spec.proofs.Checks.{handed}
use Rattle.file_sections.proofs.WayLaws.{at_first}
use Rattle.rows_steps.proofs.FileLaws.{section-within, file_refused, file_missing, file_read}
use Rattle.rows_steps.proofs.steps.file_headed.Goals as goal

pub returns-in_err-cursor : goal.returns-in_err-cursor
returns-in_err-cursor c = file_refused _ _ c.open_boards.ensures _ _ _ _ _ c.in_err-cursor.was (handed _ _ c.from_residual.ensures)

pub find_board-requires : goal.find_board-requires
find_board-requires c = at_first _ _ c.open_boards.ensures _ c.in_ok-cursor.was

pub headed_at-requires : goal.headed_at-requires
headed_at-requires c = section-within _ _ (given _ _ _ _ c.find_board.ensures c.in-Ok.is).inside

pub returns-in-Ok : goal.returns-in-Ok
returns-in-Ok c = file_read _ _ c.open_boards.ensures _ _ _ _ _ c.in_ok-cursor.was _ (given _ _ _ _ c.find_board.ensures c.in-Ok.is) _ c.headed_at.ensures

pub returns-in-Err : goal.returns-in-Err
returns-in-Err c = let m = given _ _ _ _ c.find_board.ensures c.in-Err.is in file_missing _ _ c.open_boards.ensures _ _ _ _ _ c.in_ok-cursor.was _ m.0 m.1 refl
