-- `file_sections::part_from` meets its contract: a turn passes a token that ends no part.
use Prim.Native.Nat.{◌-◌}
use lib.ListN.{length}
use Rattle.file_sections.proofs.SectionLaws.{Walks}
use Rattle.file_sections.proofs.sections.part_from.Given as goal

abbrev pub invariant-loop-next : goal.invariant-loop-next
invariant-loop-next l = Walks l.text l.at l.back l.c l.board

abbrev pub decreases-loop-next : goal.decreases-loop-next
decreases-loop-next l = length l.text - l.c
