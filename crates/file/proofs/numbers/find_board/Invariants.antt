-- `file::find_board` meets its contract: a turn passes a section that is not the one looked for.
use Rattle.file.proofs.NumberLaws.{Seeks}
use Rattle.file_sections.specs.Sections.{standing_of}
use lib.ListN.{length}
use Prim.Native.Nat.{◌+◌, ◌-◌}
use Rattle.file.proofs.numbers.find_board.Given as goal

abbrev pub invariant-loop-n : goal.invariant-loop-n
invariant-loop-n l = Seeks l.text l.number (standing_of l.c)

abbrev pub decreases-loop-n : goal.decreases-loop-n
decreases-loop-n l = length l.text + 2 - l.c.at
