-- The check of an auction that is lent as numbers. (02: N1; 01: Eight refusals, 8)
use Rattle.std.specs.Prelude.{ℕ, List, ltb}
use Rattle.lin_spec.specs.Letters.{seat_at}
use Rattle.lin_spec.specs.Lent.{call_rows}
use Rattle.auction.specs.Check.{check_auction}
use Rattle.lin_host_numbers.specs.Auctions.{auction_numbers}
use Rattle.lin_host_numbers.specs.declared.auctions.LinAuction.{LinAuction}

-- a dealer above 3 is outside its range
abbrev pub check_numbers : (text : List ℕ) (dealer : ℕ) (words : List ℕ) → LinAuction
check_numbers s d ws = auction_numbers (check_auction (ltb 3 d) s (seat_at d) (call_rows ws))
