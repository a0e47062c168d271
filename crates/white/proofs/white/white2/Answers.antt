-- `white::white::white2` meets its contract: the test is the definition, by one law. (01: Records)
use Rattle.white.proofs.WhiteLaws.{white₂_is}
use Rattle.white.proofs.white.white2.Goals as goal

pub returns : goal.returns
returns c = white₂_is _ _
