-- `bridge_auction::state::may_double` meets its contract: by what the latest call is.
use Rattle.bridge_auction.proofs.state.may_double.Goals as goal

pub returns : goal.returns
returns c = rw c.is_bid.ensures
