-- `bridge_auction::state::with_bid` meets its contract: by the next seat and the table of names.
use Rattle.bridge_auction.specs.State.{state_with_bid}
use Rattle.bridge_auction.proofs.state.with_bid.Goals as goal

pub returns : goal.returns
unfolding state_with_bid
returns c = rw (c.next_seat.ensures, c.mark-named.ensures, c.slot-k.ensures.0)
