-- `bridge_auction::calls::bid_rank` meets its contract: by the kind of call.
use Rattle.bridge_auction.specs.Auction.{rank}
use Rattle.bridge_auction.proofs.StateLaws.{rank-bid}
use Rattle.bridge_auction.proofs.calls.bid_rank.Goals as goal

pub returns-in-Pass : goal.returns-in-Pass
unfolding rank
returns-in-Pass c = rw c.in-Pass.is

pub returns-in-Double : goal.returns-in-Double
unfolding rank
returns-in-Double c = rw c.in-Double.is

pub returns-in-Redouble : goal.returns-in-Redouble
unfolding rank
returns-in-Redouble c = rw c.in-Redouble.is

pub returns-in-Bid : goal.returns-in-Bid
returns-in-Bid c = rank-bid _ _ _ _ _ c.in-Bid.is c.one_less.ensures c.strain_number.ensures
