-- `white::white::plain_ends` meets its contract: neither end is white. (01: Records)
use Rattle.white.proofs.WhiteLaws.{plain-trim}
use Rattle.white.proofs.white.plain_ends.Goals as goal

pub returns : goal.returns
returns c = plain-trim _ c.if-s-eq0.false
