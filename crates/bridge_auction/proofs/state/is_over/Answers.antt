-- `bridge_auction::state::is_over` meets its contract: by whether there is a bid.
use mathlib.Core.Path.{sym, ◌∙◌}
use Rattle.bridge_auction.proofs.state.is_over.Goals as goal

pub returns-then-is_bid : goal.returns-then-is_bid
returns-then-is_bid c = simp (sym c.is_bid.ensures ∙ c.if-is_bid.true)

pub returns : goal.returns
returns c = simp (sym c.is_bid.ensures ∙ c.if-is_bid.false)
