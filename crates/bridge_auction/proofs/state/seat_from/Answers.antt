-- `bridge_auction::state::seat_from` meets its contract: by the dealer's number.
use mathlib.Core.Path.{◌∙◌}
use Rattle.bridge_auction.specs.Auction.{caller}
use Rattle.bridge_auction.proofs.state.seat_from.Goals as goal

pub returns : goal.returns
unfolding caller
returns c = c.at.ensures ∙ rw c.number.ensures.0
