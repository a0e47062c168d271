-- `white::white::white1` meets its contract: the test is the definition, by one law. (01: Records)
use Rattle.white.proofs.WhiteLaws.{white₁_is}
use Rattle.white.proofs.white.white1.Goals as goal

pub returns : goal.returns
returns c = white₁_is _
