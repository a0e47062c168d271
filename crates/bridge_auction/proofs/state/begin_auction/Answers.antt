-- `bridge_auction::state::begin_auction` meets its contract: the empty history.
use Rattle.bridge_auction.proofs.StateLaws.{begins}
use Rattle.bridge_auction.proofs.state.begin_auction.Goals as goal

pub returns : goal.returns
returns c = begins
