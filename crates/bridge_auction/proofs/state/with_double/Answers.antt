-- `bridge_auction::state::with_double` meets its contract: by the next seat.
use Rattle.bridge_auction.specs.State.{state_with_double}
use Rattle.bridge_auction.proofs.state.with_double.Goals as goal

pub returns : goal.returns
unfolding state_with_double
returns c = rw c.next_seat.ensures
