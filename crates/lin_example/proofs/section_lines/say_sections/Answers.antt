use Rattle.std.proofs.Common.{arith}
use Rattle.file_sections.proofs.SectionLaws.{seen}
use Rattle.lin_example.proofs.section_lines.say_sections.Goals as goal

pub loop-number-smaller : goal.loop-number-smaller
loop-number-smaller g c = let f = seen _ _ _ _ c.next-step.ensures c.in-Some.is in omega (arith, f.later, f.within)
