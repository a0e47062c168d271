-- `white::lower_byte` meets its contract: std's small letter is the definition's. (01: Tokens)
use Rattle.std.proofs.Common.{◌∙◌}
use Rattle.white.proofs.WhiteLaws.{lower-is}
use Rattle.white.proofs.white.lower_byte.Goals as goal

pub returns : goal.returns
returns c = c.to_ascii_lowercase.ensures.value ∙ lower-is _
