-- `file_sections::next_board` meets its contract: a turn passes a section that is no board.
use Rattle.file_sections.proofs.SectionLaws.{Seeking}
use Rattle.file_sections.specs.Sections.{standing_of}
use lib.ListN.{length}
use Prim.Native.Nat.{◌+◌, ◌-◌}
use Rattle.file_sections.proofs.sections.next_board.Given as goal

abbrev pub invariant-loop-p : goal.invariant-loop-p
invariant-loop-p l = Seeking l.text (standing_of l.cursor) (standing_of l.c)

abbrev pub decreases-loop-p : goal.decreases-loop-p
decreases-loop-p l = length l.text + 2 - l.c.at
