-- `file_sections::next_board` meets its contract: a turn passes a section that is no board.
use Rattle.file_sections.proofs.SectionLaws.{seeking_begins, seeking_on, seeking_found, seeking_ended, seen}
use Rattle.file_sections.specs.Sections.{standing_of, visit_by}
use mathlib.Core.Path.{◌∙◌, ap}
use native.Mathlib.Omega.{arith}
use Rattle.file_sections.proofs.sections.next_board.Goals as goal

pub loop-p-init : goal.loop-p-init
loop-p-init c = seeking_begins _ _

pub returns-then-p : goal.returns-then-p
returns-then-p c =
    ap (λ f. visit_by f (standing_of c.next-step.result.cursor)) c.in-Some.is
    ∙ seeking_found _ _ _ c.loop-p.invariant _ _ _ (seen _ _ _ _ c.next-step.ensures c.in-Some.is) c.if-p.true

pub loop-p-smaller : goal.loop-p-smaller
loop-p-smaller c = let f = seen _ _ _ _ c.next-step.ensures c.in-Some.is in omega (arith, f.later, f.within)

pub loop-p-preserved : goal.loop-p-preserved
loop-p-preserved c = seeking_on _ _ _ c.loop-p.invariant _ _ _ (seen _ _ _ _ c.next-step.ensures c.in-Some.is) c.if-p.false

pub returns-in_default : goal.returns-in_default
returns-in_default c = seeking_ended _ _ _ c.loop-p.invariant (seen _ _ _ _ c.next-step.ensures c.in_default.is).1
