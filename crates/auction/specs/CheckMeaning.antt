-- What the definitions of the check are shown to mean. (02: N1)
use Rattle.bridge_auction.specs.declared.calls.AuctionCall.{AuctionCall}
use Rattle.std.specs.Prelude.{ℕ, ◌+◌, ◌≤◌, ◌≡◌, Bool, true, false, List, [], ◌∷◌, ◌++◌, map, length, Option, Some, None}
use Rattle.lin_spec.specs.Base.{All, any, concat, ascii}
use Rattle.lin_spec.specs.Records.{limit}
use Rattle.lin_spec.specs.Refusals.{passes_end, ill_span}
use Rattle.lin_spec.specs.Lent.{call_in, call_spans, bad_flag}
use Rattle.lin_spec.specs.declared.Call.{Call}
use Rattle.bridge_auction.specs.AuctionMeaning.{Real}
use Rattle.auction.specs.Bids.{read_bid, known}

-- "C, D, H, S, N or NT", and all forms, in small letters: "p, d, r, or a level 1 to 7 with" a strain
unfoldable pub strain_words : List (List ℕ)
strain_words = ascii "c" ∷ ascii "d" ∷ ascii "h" ∷ ascii "s" ∷ ascii "n" ∷ ascii "nt" ∷ []

abbrev pub bid_words : (digits : List ℕ) → List (List ℕ)
bid_words ls = concat (map (λ (l : ℕ). map (λ (t : List ℕ). l ∷ t) strain_words) ls)

unfoldable pub forms : List (List ℕ)
forms = ascii "p" ∷ ascii "d" ∷ ascii "r" ∷ bid_words (ascii "1234567")

-- "a level 1 to 7", of what was read
abbrev pub RealRead : Option AuctionCall → Type 0
RealRead (Some c) = Real c
RealRead None = Unit

-- "a bid is none of these forms, with the least such index": counted from i, those before j are of the forms, and j's is not
pub record FirstUnknown (i : ℕ) (ss : List (List ℕ)) (j : ℕ) : Type 0 where
  pub before : List (List ℕ)
  pub bid : List ℕ
  pub rest : List (List ℕ)
  pub split : ss ≡ before ++ (bid ∷ rest)
  pub index : i + length before ≡ j
  pub fine : All (λ (s : List ℕ). known (read_bid s) ≡ true) before
  pub bad : known (read_bid bid) ≡ false

-- every bid is of one of the forms
abbrev pub AllForms : List (List ℕ) → Type 0
AllForms ss = All (λ (s : List ℕ). known (read_bid s) ≡ true) ss

-- none of 1, 8, 5 and 6 meets the calls, in the order of the checks
pub record LendableCalls (other : Bool) (s : List ℕ) (cs : List Call) : Type 0 where
  pub short : length s ≤ limit
  pub others : other ≡ false
  pub flags : any bad_flag cs ≡ false
  pub within : any (passes_end s) (call_spans (map call_in cs)) ≡ false
  pub texts : any (ill_span s) (call_spans (map call_in cs)) ≡ false
