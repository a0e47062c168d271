-- `auction::unknown_bid` meets its contract: a turn looks at a row.
use Rattle.auction.proofs.SearchLaws.{Searched}
use Rattle.auction.proofs.check.unknown_bid.Given as goal

abbrev pub invariant-loop-i : goal.invariant-loop-i
invariant-loop-i l = Searched l.text l.row-items l.i
