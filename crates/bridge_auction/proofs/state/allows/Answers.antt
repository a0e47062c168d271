-- `bridge_auction::state::allows` meets its contract: a law of the history for each kind of call.
use Rattle.bridge_auction.proofs.StateLaws.{says-over, says_pass, says_double, says_redouble, says-bid}
use Rattle.bridge_auction.proofs.state.allows.Goals as goal

pub returns-then-is_over : goal.returns-then-is_over
returns-then-is_over c h t = says-over _ h t _ _ c.is_over.ensures c.if-is_over.true

pub returns-in-Pass : goal.returns-in-Pass
returns-in-Pass c h t = says_pass _ h t _ _ c.is_over.ensures c.if-is_over.false c.in-Pass.is

pub returns-in-Double : goal.returns-in-Double
returns-in-Double c h t = says_double _ h t _ _ _ c.is_over.ensures c.if-is_over.false c.in-Double.is c.may_double.ensures

pub returns-in-Redouble : goal.returns-in-Redouble
returns-in-Redouble c h t = says_redouble _ h t _ _ _ c.is_over.ensures c.if-is_over.false c.in-Redouble.is c.may_redouble.ensures

pub returns-in-Bid : goal.returns-in-Bid
returns-in-Bid c h t = says-bid _ h t _ _ _ _ _ c.is_over.ensures c.if-is_over.false c.in-Bid.is c.may_bid.ensures
