-- `file_finder::measure::most_from` meets its contract: a turn passes a section. The measure is what is left of the text.
use borrow.Author.Rules.{rules}
use native.Mathlib.Omega.{arith}
use Rattle.file_sections.proofs.SectionLaws.{seen}
use Rattle.file_sections.proofs.WayLaws.{found_inside}
use Rattle.file_finder.proofs.MeasureLaws.{measured_begin, measured-on, measured-end}
use Rattle.file_finder.proofs.measure.most_from.Goals as goal

pub loop-p-init : goal.loop-p-init
loop-p-init c = measured_begin _ _ c.requires.1

pub most_in-requires : goal.most_in-requires
most_in-requires c = (c.requires.0, found_inside _ _ c.loop-p.invariant.way _ _ _ (seen _ _ _ _ c.next-step.ensures c.in-Some.is))

pub loop-p-smaller : goal.loop-p-smaller
loop-p-smaller c = let f = seen _ _ _ _ c.next-step.ensures c.in-Some.is in omega (arith, f.later, f.within)

pub loop-p-preserved : goal.loop-p-preserved
loop-p-preserved c = measured-on _ _ _ c.loop-p.invariant _ _ _ (seen _ _ _ _ c.next-step.ensures c.in-Some.is) _ _ c.most_in.ensures (search rules)

pub returns-in_default : goal.returns-in_default
returns-in_default c = measured-end _ _ _ c.loop-p.invariant (seen _ _ _ _ c.next-step.ensures c.in_default.is).1
