-- A section stops after the place where it begins, and within the text.
use Rattle.std.proofs.Common.{◌+◌, ◌-◌, length}
use Rattle.lin_example.proofs.section_lines.say_sections.Given as goal

abbrev pub decreases-loop-number : goal.decreases-loop-number
decreases-loop-number g l = length l.text + 2 - l.c.at
