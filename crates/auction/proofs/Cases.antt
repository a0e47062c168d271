-- Auctions as texts of bids, and what is answered, by computation. (02: N1) Assumes nothing.
use Rattle.std.specs.Prelude.{Err, Ok}
use Prim.Native.Nat.{ℕ}
use Prim.Native.String.{String}
use mathlib.Core.Path.{◌≡◌, refl}
use mathlib.Core.Bool.{false}
use mathlib.Core.List.{List, [], ◌∷◌, ◌++◌, map}
use lib.Dec.{eqb}
use Rattle.lin_spec.specs.Base.{pick, any, all, keep, eq_all, ascii}
use Rattle.lin_spec.specs.White.{lower}
use Rattle.lin_spec.specs.Refusals.{Answer, unless}
use Rattle.lin_spec.specs.declared.Seat.{Seat}
use Rattle.lin_spec.specs.declared.Seat.TheVariants.{South, West, North, East}
use Rattle.lin_spec.specs.declared.Refusal.TheVariants.{BidUnknown}
use Rattle.bridge_auction.specs.Auction.{names, rank, last_bid, latest, passes, opponents, opened, ended, follows, lawful, last_bid_at, names_for, has_named, first_named, declaring, caller, declarer, contract, outcome, auction_after, auction}
use Rattle.bridge_auction.specs.declared.calls.Strain.{Strain}
use Rattle.bridge_auction.specs.declared.calls.Strain.TheVariants.{Clubs, Hearts, Spades, NoTrump}
use Rattle.bridge_auction.specs.declared.calls.Doubling.{Doubling}
use Rattle.bridge_auction.specs.declared.calls.Doubling.TheVariants.{Undoubled, Doubled, Redoubled}
use Rattle.bridge_auction.specs.declared.calls.Auction.{Auction}
use Rattle.bridge_auction.specs.declared.calls.Auction.TheVariants.{PassedOut, Ended, Open, Unlawful}
use Rattle.auction.specs.Bids.{strain_by, bid_by, level_and_strain, read_lower, read_bid, known, unknown_from, call_by, calls_of}
use Rattle.auction.specs.Judging.{judged}

-- the words of a text, cut at each space
unfoldable pub grow : ℕ → List (List ℕ) → List (List ℕ)
grow b [] = (b ∷ []) ∷ []
grow b (w ∷ ws) = pick (eqb b 32) ([] ∷ w ∷ ws) ((b ∷ w) ∷ ws)

unfoldable pub words : List ℕ → List (List ℕ)
words [] = [] ∷ []
words (b ∷ s) = grow b (words s)

-- a text of bids, and the answer where South deals
pub record Case : Type 0 where
  pub text : String
  pub is : Answer Auction

infixl 70 ◌⇒◌
pub ◌⇒◌ : String → Auction → Case
s ⇒ a = record { text = s; is = Ok a }

-- refused by 9 with an index
infixl 70 ◌⇏◌
pub ◌⇏◌ : String → ℕ → Case
s ⇏ i = record { text = s; is = Err (BidUnknown i) }

-- a contract and its declarer
pub in_contract : ℕ → Strain → Doubling → Seat → Auction
in_contract l t d x = Ended (record { level = l; strain = t; doubling = d; declarer = x })

pub cases : List Case
cases =
    ("p p p p" ⇒ PassedOut)
    ∷ ("p p p" ⇒ Open)
    ∷ ("1C p p" ⇒ Open)
    ∷ ("p p p 1C" ⇒ Open)
    ∷ ("p p p 1c p p p" ⇒ in_contract 1 Clubs Undoubled East)
    ∷ ("p p p p p" ⇒ Unlawful 4)
    ∷ ("1C p p p p" ⇒ Unlawful 4)
    ∷ ("1N 1NT" ⇒ Unlawful 1)
    ∷ ("1H 1D" ⇒ Unlawful 1)
    ∷ ("1N 2C p p p" ⇒ in_contract 2 Clubs Undoubled West)
    ∷ ("d" ⇒ Unlawful 0)
    ∷ ("p r" ⇒ Unlawful 1)
    ∷ ("1C p d" ⇒ Unlawful 2)
    ∷ ("1C p p d" ⇒ Open)
    ∷ ("1C p p d p p p" ⇒ in_contract 1 Clubs Doubled South)
    ∷ ("1C d p r" ⇒ Unlawful 3)
    ∷ ("1C d p p r" ⇒ Open)
    ∷ ("1C d p p r p p p" ⇒ in_contract 1 Clubs Redoubled South)
    ∷ ("1C d d" ⇒ Unlawful 2)
    ∷ ("1C d r d" ⇒ Unlawful 3)
    ∷ ("1C d r p r" ⇒ Unlawful 4)
    ∷ ("1C d 1H p p p" ⇒ in_contract 1 Hearts Undoubled North)
    ∷ ("1C d 1H r" ⇒ Unlawful 3)
    ∷ ("1S p 2S p 4s p p p" ⇒ in_contract 4 Spades Undoubled South)
    ∷ ("1H p 1S p 2H p 2S p p p" ⇒ in_contract 2 Spades Undoubled North)
    ∷ ("7nT D R p p p" ⇒ in_contract 7 NoTrump Redoubled South)
    ∷ ("p d zz" ⇏ 2)
    ∷ ("p p p p zz" ⇏ 4)
    ∷ ("1C x 8C" ⇏ 1)
    ∷ ("" ⇏ 0)
    ∷ []

-- each is answered as it should be, and 9 comes before any law: `d` is unlawful in `p d zz`, and `zz` comes after the end in `p p p p zz`
pub answers_right : map (λ (k : Case). judged South (words (ascii k.text))) cases ≡ map (λ (k : Case). k.is) cases
unfolding cases ◌⇒◌ ◌⇏◌ in_contract judged unless calls_of words grow any all keep eq_all lower names rank last_bid latest passes opponents opened ended follows lawful last_bid_at names_for has_named first_named declaring caller declarer contract outcome auction_after auction strain_by bid_by level_and_strain read_lower read_bid unknown_from
answers_right = refl

-- "Starting from the dealer": North deals, and East was the first of the last bidder's side to name clubs
pub north_deals : judged North (words (ascii "1C 2C p 3C p p p")) ≡ Ok (in_contract 3 Clubs Undoubled East)
unfolding in_contract judged unless calls_of words grow any all keep eq_all lower names rank last_bid latest passes opponents opened ended follows lawful last_bid_at names_for has_named first_named declaring caller declarer contract outcome auction_after auction strain_by bid_by level_and_strain read_lower read_bid unknown_from
north_deals = refl

-- no call is an open auction
pub no_call : (d : Seat) → judged d [] ≡ Ok Open
unfolding judged unless calls_of auction auction_after outcome ended opened last_bid passes unknown_from
no_call d = refl

-- what is none of the forms
pub no_forms : any (λ (s : String). known (read_bid (ascii s))) ("pass" ∷ "x" ∷ "-" ∷ "" ∷ " p" ∷ "p " ∷ "1C!" ∷ "8C" ∷ "0N" ∷ "1NN" ∷ "1T" ∷ "c" ∷ "1" ∷ "1NTT" ∷ "1CT" ∷ "NT" ∷ "1 C" ∷ "11C" ∷ []) ≡ false
unfolding any eq_all lower strain_by bid_by level_and_strain read_lower read_bid
no_forms = refl

-- the 35 bids by their ranks, "C, D, H, S, N" in this order at each level
pub levels : List (List ℕ)
levels = map (λ (s : String). ascii s) ("1" ∷ "2" ∷ "3" ∷ "4" ∷ "5" ∷ "6" ∷ "7" ∷ [])

pub ranks_with : List String → List ℕ → List ℕ
ranks_with ts l = map (λ (t : String). rank (call_by (read_bid (l ++ ascii t)))) ts

pub ranks : map (ranks_with ("C" ∷ "D" ∷ "H" ∷ "S" ∷ "N" ∷ "NT" ∷ "nt" ∷ [])) levels
    ≡ (1 ∷ 2 ∷ 3 ∷ 4 ∷ 5 ∷ 5 ∷ 5 ∷ [])
    ∷ (6 ∷ 7 ∷ 8 ∷ 9 ∷ 10 ∷ 10 ∷ 10 ∷ [])
    ∷ (11 ∷ 12 ∷ 13 ∷ 14 ∷ 15 ∷ 15 ∷ 15 ∷ [])
    ∷ (16 ∷ 17 ∷ 18 ∷ 19 ∷ 20 ∷ 20 ∷ 20 ∷ [])
    ∷ (21 ∷ 22 ∷ 23 ∷ 24 ∷ 25 ∷ 25 ∷ 25 ∷ [])
    ∷ (26 ∷ 27 ∷ 28 ∷ 29 ∷ 30 ∷ 30 ∷ 30 ∷ [])
    ∷ (31 ∷ 32 ∷ 33 ∷ 34 ∷ 35 ∷ 35 ∷ 35 ∷ [])
    ∷ []
unfolding levels ranks_with rank eq_all lower strain_by bid_by level_and_strain read_lower read_bid
ranks = refl
