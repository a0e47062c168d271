-- `file_finder::finder::find_from` meets its contract: a turn passes a section. The measure is what is left of the text.
use Prim.Native.Nat.{◌+◌, ◌-◌}
use lib.ListN.{length}
use Rattle.file_sections.specs.Sections.{standing_of}
use Rattle.file_finder.proofs.FinderLaws.{Tally}
use Rattle.file_finder.proofs.finder.find_from.Given as goal

abbrev pub invariant-loop-p : goal.invariant-loop-p
invariant-loop-p l = Tally l.mappings l.text l.name l.sought l.initial.work l.work l.count (standing_of l.c)

abbrev pub decreases-loop-p : goal.decreases-loop-p
decreases-loop-p l = length l.text + 2 - l.c.at
