-- `bridge_auction::state::may_redouble` meets its contract: by what the latest call is.
use Rattle.bridge_auction.proofs.state.may_redouble.Goals as goal

pub returns : goal.returns
returns c = rw c.is_double.ensures
