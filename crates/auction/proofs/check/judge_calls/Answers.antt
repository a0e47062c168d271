-- `auction::judge_calls` meets its contract: 9, or what the calls are.
use Rattle.auction.proofs.CheckLaws.{judge_unknown, judge_known}
use Rattle.auction.proofs.check.judge_calls.Goals as goal

pub returns-in-Some : goal.returns-in-Some
returns-in-Some c = judge_unknown _ _ _ c.unknown_bid.ensures _ c.in-Some.is

pub returns-in-None : goal.returns-in-None
returns-in-None c = judge_known _ _ _ c.unknown_bid.ensures c.in-None.is _ c.follow_calls.ensures
