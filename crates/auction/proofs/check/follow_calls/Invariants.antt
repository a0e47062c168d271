-- `auction::follow_calls` meets its contract: the state has followed the rows before this one.
use Rattle.auction.proofs.FollowRowLaws.{FollowedRows}
use Rattle.auction.proofs.check.follow_calls.Given as goal

abbrev pub invariant-loop-i : goal.invariant-loop-i
invariant-loop-i l = FollowedRows l.text l.row-items l.dealer l.state l.i
