-- What a part of the check gives: the answer where 1, 8, 5 and 6 are passed. (02: N1)
use Rattle.std.specs.Prelude.{ℕ, List, [], ◌∷◌}
use Rattle.lin_spec.specs.Refusals.{Answer, unless}
use Rattle.lin_spec.specs.declared.Seat.{Seat}
use Rattle.bridge_auction.specs.Auction.{auction}
use Rattle.bridge_auction.specs.declared.calls.Auction.{Auction}
use Rattle.auction.specs.Bids.{calls_of}
use Rattle.auction.specs.Check.{bid_unknown}

-- the answer where 1, 8, 5 and 6 are passed
unfoldable pub judged : (dealer : Seat) (bids : List (List ℕ)) → Answer Auction
judged d bs = unless (bid_unknown bs ∷ []) (auction d (calls_of bs))
