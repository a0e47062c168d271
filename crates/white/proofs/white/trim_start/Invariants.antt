-- `white::white::trim_start` meets its contract: the white characters before i are passed. The measure is what is left. (01: Records)
use Prim.Native.Nat.{◌-◌}
use lib.ListN.{length}
use Rattle.white.proofs.WhiteLaws.{Start}
use Rattle.white.proofs.white.trim_start.Given as goal

abbrev pub invariant-loop-i : goal.invariant-loop-i
invariant-loop-i l = Start l.s l.i

abbrev pub decreases-loop-i : goal.decreases-loop-i
decreases-loop-i l = length l.s - l.i
