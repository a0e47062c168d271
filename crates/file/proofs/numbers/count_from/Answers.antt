-- `file::count_from` meets its contract: a turn passes a section.
use Rattle.file_sections.proofs.SectionLaws.{seen}
use Rattle.file_sections.proofs.WayLaws.{way_begin, way_on, way_end}
use native.Mathlib.Omega.{arith}
use Rattle.file.proofs.numbers.count_from.Goals as goal

pub loop-c-init : goal.loop-c-init
loop-c-init c = way_begin _ _ c.requires

pub loop-c-smaller : goal.loop-c-smaller
loop-c-smaller c = let f = seen _ _ _ _ c.next-step.ensures c.in-Some.is in omega (arith, f.later, f.within)

pub loop-c-preserved : goal.loop-c-preserved
loop-c-preserved c = way_on _ _ c.loop-c.invariant _ _ _ (seen _ _ _ _ c.next-step.ensures c.in-Some.is)

pub returns-in_default : goal.returns-in_default
returns-in_default c = way_end _ _ c.loop-c.invariant (seen _ _ _ _ c.next-step.ensures c.in_default.is).1
