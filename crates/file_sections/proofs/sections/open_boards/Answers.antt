-- `file_sections::open_boards` meets its contract.
use Rattle.file_sections.proofs.SectionLaws.{boards-opened, boards-refused}
use Rattle.lin_spec.proofs.Checks.{handed}
use Rattle.file_sections.specs.Sections.{opened_of}
use mathlib.Core.Path.{◌∙◌, ap}
use Rattle.file_sections.proofs.sections.open_boards.Goals as goal

pub returns : goal.returns
returns c = boards-opened _ _ c.open.ensures _ c.in_ok-open.was _ c.holds_qx-lines.ensures

pub returns-in_err-open : goal.returns-in_err-open
returns-in_err-open c = ap opened_of (handed _ _ c.from_residual.ensures) ∙ boards-refused _ _ c.open.ensures _ c.in_err-open.was
