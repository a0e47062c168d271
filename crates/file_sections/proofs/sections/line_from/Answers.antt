-- `file_sections::line_from` meets its contract: the line ends at the next LF or at the end.
use Rattle.file_sections.proofs.SectionLaws.{line-stop, line-is}
use native.Mathlib.Omega.{arith}
use Rattle.file_sections.proofs.sections.line_from.Goals as goal

pub slice_bounds-is_blank-count : goal.slice_bounds-is_blank-count
slice_bounds-is_blank-count c = omega (arith, (line-stop _ _ _ c.requires c.find_byte-stop.ensures).0)

pub slice_bounds-is_blank-start : goal.slice_bounds-is_blank-start
slice_bounds-is_blank-start c = omega (arith, (line-stop _ _ _ c.requires c.find_byte-stop.ensures).0)

pub slice_bounds-is_blank-end : goal.slice_bounds-is_blank-end
slice_bounds-is_blank-end c = omega (arith, (line-stop _ _ _ c.requires c.find_byte-stop.ensures).1)

pub returns : goal.returns
returns c = line-is _ _ _ c.requires c.find_byte-stop.ensures _ c.is_blank.ensures
