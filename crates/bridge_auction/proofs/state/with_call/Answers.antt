-- `bridge_auction::state::with_call` meets its contract: a law of the history for each kind of call.
use Rattle.bridge_auction.proofs.StateLaws.{after_pass, after_double, after_redouble, after-bid}
use Rattle.bridge_auction.proofs.state.with_call.Goals as goal

pub returns-in-Pass : goal.returns-in-Pass
returns-in-Pass c h t l = after_pass _ h t _ _ c.in-Pass.is c.with_pass.ensures l

pub returns-in-Double : goal.returns-in-Double
returns-in-Double c h t l = after_double _ h t _ _ c.in-Double.is c.with_double.ensures

pub returns-in-Redouble : goal.returns-in-Redouble
returns-in-Redouble c h t l = after_redouble _ h t _ _ c.in-Redouble.is c.with_double-in-Redouble.ensures

pub returns-in-Bid : goal.returns-in-Bid
returns-in-Bid c h t l = after-bid _ h t _ _ _ _ c.in-Bid.is c.with_bid.ensures
