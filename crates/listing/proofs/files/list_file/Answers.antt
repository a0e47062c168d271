-- `listing::list_file` meets its contract: its answer by the tests that led there.
use Rattle.listing.proofs.FileLaws.{as_listed, list_over, list_refused, list_boards}
use Rattle.file_sections.proofs.WayLaws.{at_first}
use Rattle.listing.proofs.files.list_file.Goals as goal

pub returns-then-text-gt-LIST_LIMIT : goal.returns-then-text-gt-LIST_LIMIT
returns-then-text-gt-LIST_LIMIT c = as_listed _ _ _ c.refusal_line.ensures (list_over _ c.if-text-gt-LIST_LIMIT.true)

pub list_from-requires : goal.list_from-requires
list_from-requires c = at_first _ _ c.open_boards.ensures _ c.in-Ok.is

pub returns-in-Ok : goal.returns-in-Ok
returns-in-Ok c = as_listed _ _ _ c.list_from.ensures (list_boards _ c.if-text-gt-LIST_LIMIT.false _ c.open_boards.ensures _ c.in-Ok.is)

pub returns-in-Err : goal.returns-in-Err
returns-in-Err c = as_listed _ _ _ c.refusal_line-in-Err.ensures (list_refused _ c.if-text-gt-LIST_LIMIT.false _ c.open_boards.ensures _ c.in-Err.is)
