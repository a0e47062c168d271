-- `listing::lines_len` meets its contract: a turn measures the line of one section.
use Rattle.file_sections.proofs.SectionLaws.{seen}
use Rattle.listing.proofs.FileLaws.{measured_begin, measured-on, measured-end}
use Rattle.file_sections.proofs.WayLaws.{found_inside}
use native.Mathlib.Omega.{arith}
use Rattle.listing.proofs.files.lines_len.Goals as goal

pub loop-number-init : goal.loop-number-init
loop-number-init c = measured_begin _ _ c.requires

pub section_len-requires : goal.section_len-requires
section_len-requires c = found_inside _ _ c.loop-number.invariant.way _ _ _ (seen _ _ _ _ c.next-step.ensures c.in-Some.is)

pub loop-number-smaller : goal.loop-number-smaller
loop-number-smaller c = let f = seen _ _ _ _ c.next-step.ensures c.in-Some.is in omega (arith, f.later, f.within)

pub loop-number-preserved : goal.loop-number-preserved
loop-number-preserved c = measured-on _ _ _ c.loop-number.invariant _ _ _ (seen _ _ _ _ c.next-step.ensures c.in-Some.is) _ c.section_len.ensures _ c.sat_add-n.ensures

pub returns-in_default : goal.returns-in_default
returns-in_default c = measured-end _ _ _ c.loop-number.invariant (seen _ _ _ _ c.next-step.ensures c.in_default.is).1
