-- `listing::section_heading` meets its contract.
use Rattle.file_sections.proofs.SectionLaws.{inside-long, inside-within}
use Rattle.listing.proofs.FileLaws.{heading-is}
use Rattle.listing.proofs.files.section_heading.Goals as goal

pub slice_bounds-heading_at-end : goal.slice_bounds-heading_at-end
slice_bounds-heading_at-end c = inside-long _ _ c.requires

pub heading_at-requires : goal.heading_at-requires
heading_at-requires c = inside-within _ _ c.requires

pub returns : goal.returns
returns c = heading-is c.args.text.now c.args.p _ c.heading_at.ensures
