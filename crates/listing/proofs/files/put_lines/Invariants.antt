-- `listing::put_lines` meets its contract: a turn puts the line of one section.
use Rattle.listing.proofs.FileLaws.{Listed}
use Rattle.file_sections.specs.Sections.{standing_of}
use lib.ListN.{length}
use Prim.Native.Nat.{◌+◌, ◌-◌}
use Rattle.listing.proofs.files.put_lines.Given as goal

abbrev pub invariant-loop-number : goal.invariant-loop-number
invariant-loop-number l = Listed l.text l.out l.n (standing_of l.c) l.initial.out l.at

abbrev pub decreases-loop-number : goal.decreases-loop-number
decreases-loop-number l = length l.text + 2 - l.c.at
