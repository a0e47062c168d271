-- `white::white::trim_ends` meets its contract: the end is trimmed after the start. (01: Records)
use Rattle.white.proofs.WhiteLaws.{both_ends}
use Rattle.white.proofs.white.trim_ends.Goals as goal

pub returns : goal.returns
returns c = both_ends _ _ _ c.trim_start-a.ensures c.trim_end-n.ensures.0
