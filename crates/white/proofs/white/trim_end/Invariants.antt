-- `white::white::trim_end` meets its contract: the white characters from n on are passed. The measure is n. (01: Records)
use Rattle.white.proofs.WhiteLaws.{End}
use Rattle.white.proofs.white.trim_end.Given as goal

abbrev pub invariant-loop-n : goal.invariant-loop-n
invariant-loop-n l = End l.s l.n

abbrev pub decreases-loop-n : goal.decreases-loop-n
decreases-loop-n l = l.n
