-- `BoardCursor::next` meets its contract: each answer by the tests that led there.
use Rattle.file_sections.proofs.SectionLaws.{line-short, line-ended, line-passed, part-ended, part-passed}
use native.Mathlib.Omega.{arith}
use Rattle.file_sections.proofs.sections.BoardCursor.next.Goals as goal

pub returns-then-text-self : goal.returns-then-text-self
returns-then-text-self c = line-ended _ _ c.if-self.true c.if-text-self.true

pub overflow_add-line : goal.overflow_add-line
overflow_add-line c = omega (arith, line-short _ _ _ c.if-text-self.false c.line_from-line.ensures)

pub returns-then-self : goal.returns-then-self
returns-then-self c = line-passed _ _ c.if-self.true c.if-text-self.false _ c.line_from-line.ensures c.passed.ensures

pub returns-then-p-self : goal.returns-then-p-self
returns-then-p-self c = part-ended _ _ c.if-self.false _ c.part_from-p.ensures c.if-p-self.true

pub returns : goal.returns
returns c = part-passed _ _ c.if-self.false _ c.part_from-p.ensures c.if-p-self.false c.passed-2.ensures
