-- `white::white::white3` meets its contract: the test is the definition, by one law. (01: Records)
use Rattle.white.proofs.WhiteLaws.{white₃_is}
use Rattle.white.proofs.white.white3.Goals as goal

pub returns : goal.returns
returns c = white₃_is _ _ _
