-- `bridge_auction::state::with_pass` meets its contract: by the next seat and the count.
use Rattle.bridge_auction.specs.State.{state_with_pass}
use Rattle.bridge_auction.proofs.state.with_pass.Goals as goal

pub returns : goal.returns
unfolding state_with_pass
returns c = rw (c.next_seat.ensures, c.next_count.ensures)
