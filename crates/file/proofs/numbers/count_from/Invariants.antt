-- `file::count_from` meets its contract: a turn passes a section.
use Rattle.file_sections.proofs.WayLaws.{Way}
use Rattle.file_sections.specs.Sections.{standing_of}
use lib.ListN.{length}
use Prim.Native.Nat.{◌+◌, ◌-◌}
use Rattle.file.proofs.numbers.count_from.Given as goal

abbrev pub invariant-loop-c : goal.invariant-loop-c
invariant-loop-c l = Way l.text (standing_of l.c)

abbrev pub decreases-loop-c : goal.decreases-loop-c
decreases-loop-c l = length l.text + 2 - l.c.at
