-- `file_sections::holds_qx` meets its contract: a turn takes a token that is no qx off those that are still to be read.
use Rattle.lin_spec.specs.File.{holds}
use Rattle.lin_spec.specs.Reading.{stream}
use Rattle.lin_spec.specs.Base.{ascii}
use lib.ListN.{length}
use mathlib.Core.Path.{◌≡◌}
use Prim.Native.Nat.{◌-◌}
use Rattle.file_sections.proofs.sections.holds_qx.Given as goal

abbrev pub invariant-loop-k : goal.invariant-loop-k
invariant-loop-k l = holds (ascii "qx") (stream l.text l.c.at) ≡ holds (ascii "qx") (stream l.text 0)

abbrev pub decreases-loop-k : goal.decreases-loop-k
decreases-loop-k l = length l.text - l.c.at
