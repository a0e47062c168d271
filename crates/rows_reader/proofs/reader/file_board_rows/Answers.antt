-- `rows_reader::file_board_rows` meets its contract: its calls are stored where it is accepted, and none is where it is refused.
use Rattle.lin_spec.proofs.Checks.{handed}
use Rattle.rows_reader.specs.Reader.{file_rows}
use Rattle.rows_reader.proofs.ReaderLaws.{heads-fit, rows-read, rows-refused}
use Rattle.rows_reader.proofs.reader.file_board_rows.Goals as goal

pub store_rows-requires : goal.store_rows-requires
store_rows-requires c = heads-fit _ _ _ _ _ _ c.file_headed.ensures _ c.in_ok-h.was

pub returns-in_err-h : goal.returns-in_err-h
unfolding file_rows
returns-in_err-h c = rows-refused _ _ _ _ _ _ c.file_headed.ensures _ c.in_err-h.was _ (handed _ _ c.from_residual.ensures)

pub returns : goal.returns
unfolding file_rows
returns c = rows-read _ _ _ _ _ _ c.file_headed.ensures _ c.in_ok-h.was _ c.store_rows.ensures
