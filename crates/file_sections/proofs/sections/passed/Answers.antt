-- `file_sections::passed` meets its contract.
use Rattle.file_sections.proofs.sections.passed.Goals as goal

pub returns : goal.returns
returns c = simp c.next_number.ensures
