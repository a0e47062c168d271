-- `file::file_heading` meets its contract.
use Rattle.file.proofs.NumberLaws.{given, heading-refused, heading-found, heading_missing}
use Rattle.file_sections.proofs.WayLaws.{at_first}
use Rattle.file_sections.proofs.SectionLaws.{inside-long, inside-within}
use native.Mathlib.Omega.{arith}
use Rattle.lin_spec.proofs.Checks.{handed}
use Rattle.file.proofs.numbers.file_heading.Goals as goal

pub returns-in_err-cursor : goal.returns-in_err-cursor
returns-in_err-cursor c = heading-refused _ _ c.open_boards.ensures _ c.in_err-cursor.was _ _ (handed _ _ c.from_residual.ensures)

pub find_board-requires : goal.find_board-requires
find_board-requires c = at_first _ _ c.open_boards.ensures _ c.in_ok-cursor.was

pub slice_bounds-heading_at-end : goal.slice_bounds-heading_at-end
slice_bounds-heading_at-end c = inside-long _ _ (given _ _ _ _ c.find_board.ensures c.in_ok-p.was).inside

pub heading_at-requires : goal.heading_at-requires
heading_at-requires c = let h = inside-within _ _ (given _ _ _ _ c.find_board.ensures c.in_ok-p.was).inside in (omega (arith, h.0), h.1)

pub returns : goal.returns
returns c = heading-found _ _ c.open_boards.ensures _ c.in_ok-cursor.was _ _ (given _ _ _ _ c.find_board.ensures c.in_ok-p.was) _ c.heading_at.ensures

pub returns-in_err-p : goal.returns-in_err-p
returns-in_err-p c = let m = given _ _ _ _ c.find_board.ensures c.in_err-p.was in heading_missing _ _ c.open_boards.ensures _ c.in_ok-cursor.was _ _ m.0 m.1 _ (handed _ _ c.from_residual-in_err-p.ensures)
