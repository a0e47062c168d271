-- `listing::lines_len` meets its contract: a turn measures the line of one section.
use Rattle.listing.proofs.FileLaws.{Measured}
use Rattle.file_sections.specs.Sections.{standing_of}
use lib.ListN.{length}
use Prim.Native.Nat.{◌+◌, ◌-◌}
use Rattle.listing.proofs.files.lines_len.Given as goal

abbrev pub invariant-loop-number : goal.invariant-loop-number
invariant-loop-number l = Measured l.text l.n (standing_of l.c)

abbrev pub decreases-loop-number : goal.decreases-loop-number
decreases-loop-number l = length l.text + 2 - l.c.at
