-- `bridge_auction::state::may_bid` meets its contract: by the ranks of both.
use Rattle.bridge_auction.proofs.state.may_bid.Goals as goal

pub returns : goal.returns
returns c = rw (c.bid_rank.ensures, c.bid_rank-2.ensures)
