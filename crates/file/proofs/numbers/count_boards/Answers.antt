-- `file::count_boards` meets its contract.
use Rattle.file.proofs.NumberLaws.{counted, count-refused}
use Rattle.file_sections.proofs.WayLaws.{at_first}
use Rattle.lin_spec.proofs.Checks.{handed}
use mathlib.Core.Path.{◌∙◌}
use Rattle.file.proofs.numbers.count_boards.Goals as goal

pub count_from-requires : goal.count_from-requires
count_from-requires c = at_first _ _ c.open_boards.ensures _ c.in_ok-cursor.was

pub returns : goal.returns
returns c = counted _ _ c.open_boards.ensures _ c.in_ok-cursor.was _ c.count_from.ensures

pub returns-in_err-cursor : goal.returns-in_err-cursor
returns-in_err-cursor c = handed _ _ c.from_residual.ensures ∙ count-refused _ _ c.open_boards.ensures _ c.in_err-cursor.was
