-- `white::is_blank` meets its contract: a text that trims to nothing is blank. (01: Records, trim)
use Rattle.white.proofs.WhiteLaws.{blank-is}
use Rattle.white.proofs.white.is_blank.Goals as goal

pub returns : goal.returns
returns c = blank-is _ _ c.trim_ends.ensures
