-- `file_sections::holds_qx` meets its contract: a turn takes a token that is no qx off those that are still to be read.
use Rattle.file_sections.proofs.SectionLaws.{qx-here, qx-later, no_qx}
use Rattle.document_commands.proofs.StepLaws.{commanded}
use mathlib.Core.Path.{◌∙◌}
use native.Mathlib.Omega.{arith}
use Rattle.file_sections.proofs.sections.holds_qx.Goals as goal

pub returns-then-k-eq-QX : goal.returns-then-k-eq-QX
returns-then-k-eq-QX c = qx-here _ _ _ _ _ (commanded _ _ _ _ c.next_command.ensures c.in-Some.is) c.if-k-eq-QX.true ∙ c.loop-k.invariant

pub loop-k-smaller : goal.loop-k-smaller
loop-k-smaller c = let t = commanded _ _ _ _ c.next_command.ensures c.in-Some.is in omega (arith, t.later, t.within)

pub loop-k-preserved : goal.loop-k-preserved
loop-k-preserved c = qx-later _ _ _ _ _ (commanded _ _ _ _ c.next_command.ensures c.in-Some.is) c.if-k-eq-QX.false ∙ c.loop-k.invariant

pub returns : goal.returns
returns c = no_qx _ _ (commanded _ _ _ _ c.next_command.ensures c.in_default.is) ∙ c.loop-k.invariant
