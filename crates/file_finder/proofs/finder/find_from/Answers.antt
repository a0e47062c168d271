-- `file_finder::finder::find_from` meets its contract: a turn passes a section. The measure is what is left of the text.
use native.Mathlib.Omega.{arith}
use Rattle.file_sections.proofs.SectionLaws.{seen}
use Rattle.file_sections.proofs.WayLaws.{found_inside}
use Rattle.file_finder.proofs.FinderLaws.{tally_begin, section_fits, tally_on, tally_end}
use Rattle.file_finder.proofs.finder.find_from.Goals as goal

pub loop-p-init : goal.loop-p-init
loop-p-init c = let p = c.requires in tally_begin _ _ _ _ _ _ p.0 p.1 p.2

pub found_in-count-requires : goal.found_in-count-requires
found_in-count-requires c = let t = c.loop-p.invariant in
    let f = seen _ _ _ _ c.next-step.ensures c.in-Some.is in
    (t.looking, found_inside _ _ t.way _ _ _ f, section_fits _ _ _ _ _ _ _ _ t _ _ _ f)

pub loop-p-smaller : goal.loop-p-smaller
loop-p-smaller c = let f = seen _ _ _ _ c.next-step.ensures c.in-Some.is in omega (arith, f.later, f.within)

pub loop-p-preserved : goal.loop-p-preserved
loop-p-preserved c = let f = seen _ _ _ _ c.next-step.ensures c.in-Some.is in
    let e = c.found_in-count.ensures in
    tally_on _ _ _ _ _ _ _ _ c.loop-p.invariant _ _ _ f _ e.0 _ e.1 e.2

pub returns-in_default : goal.returns-in_default
returns-in_default c = let t = c.loop-p.invariant in (tally_end _ _ _ _ _ _ _ _ t (seen _ _ _ _ c.next-step.ensures c.in_default.is).1, t.long)
