-- `bridge_auction::state::outcome` meets its contract: a law of the history for each answer.
use borrow.Author.Tests.{not-true, not-false}
use Rattle.bridge_auction.proofs.StateLaws.{still_open, passed_out, the_contract}
use Rattle.bridge_auction.proofs.state.outcome.Goals as goal

pub returns-then-not-is_over : goal.returns-then-not-is_over
returns-then-not-is_over c h t = still_open _ h t _ _ c.is_over.ensures (not-true _ c.if-not-is_over.true-raw)

pub returns-then-not-is_bid : goal.returns-then-not-is_bid
returns-then-not-is_bid c h t = passed_out _ h t _ _ _ c.is_over.ensures (not-false _ c.if-not-is_over.false-raw) c.is_bid.ensures (not-true _ c.if-not-is_bid.true-raw)

pub returns : goal.returns
returns c h t = the_contract _ h t _ _ _ _ _ _ _ _ _ c.is_over.ensures (not-false _ c.if-not-is_over.false-raw) c.is_bid.ensures (not-false _ c.if-not-is_bid.false-raw) c.strain_of-t.ensures c.slot-k.ensures.0 c.one_less.ensures c.seat_from-declarer.ensures c.level_of.ensures c.doubling_of.ensures
