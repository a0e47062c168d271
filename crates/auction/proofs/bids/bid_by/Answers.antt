-- `auction::bids::bid_by` meets its contract: by the level.
use mathlib.Core.Path.{◌∙◌}
use Rattle.auction.proofs.BidLaws.{level_low, level_high, level_fits, level_none}
use Rattle.auction.proofs.bids.bid_by.Goals as goal

pub returns-then-b-lt49 : goal.returns-then-b-lt49
returns-then-b-lt49 c = level_low _ _ _ c.in_ok-strain.was c.if-b-lt49.true

pub returns-then-b-gt55 : goal.returns-then-b-gt55
returns-then-b-gt55 c = level_high _ _ _ c.in_ok-strain.was c.if-b-lt49.false c.if-b-gt55.true

pub returns : goal.returns
returns c = level_fits _ _ _ c.in_ok-strain.was c.if-b-lt49.false c.if-b-gt55.false

pub returns-in_err-strain : goal.returns-in_err-strain
returns-in_err-strain c = c.from_residual.ensures ∙ level_none _ _ c.in_err-strain.was
