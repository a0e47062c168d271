-- `file_finder::measure::most_from` meets its contract: a turn passes a section. The measure is what is left of the text.
use Prim.Native.Nat.{◌+◌, ◌-◌}
use lib.ListN.{length}
use Rattle.file_sections.specs.Sections.{standing_of}
use Rattle.file_finder.proofs.MeasureLaws.{Measured}
use Rattle.file_finder.proofs.measure.most_from.Given as goal

abbrev pub invariant-loop-p : goal.invariant-loop-p
invariant-loop-p l = Measured l.text l.most (standing_of l.c)

abbrev pub decreases-loop-p : goal.decreases-loop-p
decreases-loop-p l = length l.text + 2 - l.c.at
