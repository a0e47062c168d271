-- `listing::put_lines` meets its contract: a turn puts the line of one section.
use Rattle.file_sections.proofs.SectionLaws.{seen}
use Rattle.listing.proofs.FileLaws.{listed_begin, listed_room, listed_on, listed_end}
use Rattle.file_sections.proofs.WayLaws.{found_inside}
use native.Mathlib.Omega.{arith}
use Rattle.listing.proofs.files.put_lines.Goals as goal

pub loop-number-init : goal.loop-number-init
loop-number-init c = listed_begin _ _ c.requires.1 _ _ c.requires.0

pub put_section-n-requires : goal.put_section-n-requires
put_section-n-requires c = let f = seen _ _ _ _ c.next-step.ensures c.in-Some.is in (listed_room _ _ _ _ _ _ c.loop-number.invariant _ _ _ f, found_inside _ _ c.loop-number.invariant.way _ _ _ f)

pub loop-number-smaller : goal.loop-number-smaller
loop-number-smaller c = let f = seen _ _ _ _ c.next-step.ensures c.in-Some.is in omega (arith, f.later, f.within)

pub loop-number-preserved : goal.loop-number-preserved
loop-number-preserved c = listed_on _ _ _ _ _ _ c.loop-number.invariant _ _ _ (seen _ _ _ _ c.next-step.ensures c.in-Some.is) c.put_section-n.ensures

pub shape_of-out-in_default : goal.shape_of-out-in_default
shape_of-out-in_default c = c.loop-number.invariant.left.long

pub returns-in_default : goal.returns-in_default
returns-in_default c = listed_end _ _ _ _ _ _ c.loop-number.invariant (seen _ _ _ _ c.next-step.ensures c.in_default.is).1
