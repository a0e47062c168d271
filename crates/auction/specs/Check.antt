-- The auction of a board, checked. (02: N1; 01: Eight refusals)
use Rattle.std.specs.Prelude.{ℕ, Bool, ◌||◌, List, [], ◌∷◌, map, Option}
use Rattle.lin_spec.specs.Base.{any}
use Rattle.lin_spec.specs.Records.{bytes_at}
use Rattle.lin_spec.specs.Refusals.{Answer, refuse_if, unless, too_long, past_end, span_not_utf8}
use Rattle.lin_spec.specs.Board.{map_option}
use Rattle.lin_spec.specs.Lent.{call_in, call_spans, bad_flag}
use Rattle.lin_spec.specs.declared.Call.{Call}
use Rattle.lin_spec.specs.declared.Seat.{Seat}
use Rattle.lin_spec.specs.declared.Refusal.{Refusal}
use Rattle.lin_spec.specs.declared.Refusal.TheVariants.{OutOfRange, BidUnknown}
use Rattle.bridge_auction.specs.Auction.{auction}
use Rattle.bridge_auction.specs.declared.calls.Auction.{Auction}
use Rattle.auction.specs.Bids.{unknown_from, calls_of}

-- the bids of calls, as bytes
abbrev pub bids_of : (text : List ℕ) → List Call → List (List ℕ)
bids_of s cs = map (λ (c : Call). bytes_at s c.bid) cs

-- "9, a bid is none of these forms, with the least such index"
abbrev pub bid_unknown : (bids : List (List ℕ)) → Option Refusal
bid_unknown bs = map_option BidUnknown (unknown_from 0 bs)

-- 1, 8, 5, 6 and 9, "checked after 5 and 6", each over all calls: their flags, the texts of their bids and annotations. `other` says whether
-- another number of the call, the dealer's code of the export, is outside its range; the entry has none. Only then are the laws of the auction looked at.
unfoldable pub check_auction : (other : Bool) (text : List ℕ) → (dealer : Seat) → List Call → Answer Auction
check_auction other s d cs =
    let xs = call_spans (map call_in cs) in
    let bs = bids_of s cs in
    unless
    (too_long s ∷ refuse_if (other || any bad_flag cs) OutOfRange ∷ past_end s xs ∷ span_not_utf8 s xs ∷ bid_unknown bs ∷ [])
    (auction d (calls_of bs))
