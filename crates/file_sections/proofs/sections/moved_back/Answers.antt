-- `file_sections::moved_back` meets its contract.
use Rattle.file_sections.proofs.sections.moved_back.Goals as goal

pub returns-then-k : goal.returns-then-k
returns-then-k c = simp c.if-k.true

pub returns : goal.returns
returns c = simp c.if-k.false
