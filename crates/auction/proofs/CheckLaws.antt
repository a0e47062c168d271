-- The answer of the check: a fresh board's calls are put to 1, 8, 5 and 6, then 9 is looked for, then the laws of the auction. (02: N1) Assumes nothing.
use Rattle.std.specs.Prelude.{Err, Ok, Result, Option, Some, None}
use Prim.Native.Nat.{ℕ}
use native.Mathlib.Omega.{arith}
use mathlib.Core.Path.{◌≡◌, refl, sym}
use mathlib.Core.Bool.{Bool, false, ◌||◌}
use mathlib.Core.List.{List, [], ◌∷◌, map}
use lib.ListN.{length}
use borrow.Author.Tests.{le-ltb}
use Rattle.lin_spec.specs.Base.{any}
use Rattle.lin_spec.specs.Records.{span, part}
use Rattle.lin_spec.specs.Refusals.{refuse_if, unless, too_long, passes_end, ill_span, past_end, span_not_utf8}
use Rattle.lin_spec.specs.Utf8.{utf8, utf}
use Rattle.lin_spec.specs.Fresh.{fresh_board}
use Rattle.lin_spec.specs.Lent.{call_rows, call_in, Lent, lent, lent_board, call_spans, lent_spans, bad_flag, bad_number, lent_checks}
use Rattle.lin_spec.specs.declared.Span.{Span}
use Rattle.lin_spec.specs.declared.Seat.{Seat}
use Rattle.lin_spec.specs.declared.Refusal.{Refusal}
use Rattle.lin_spec.specs.declared.Refusal.TheVariants.{OutOfRange, BidUnknown}
use Rattle.board_lent.specs.Heads.{head_of, board_of}
use Rattle.board_lent.specs.Checks.{checked}
use Rattle.board_lent.specs.declared.heads.Head.{Head}
use Rattle.board_lent.proofs.LentLaws.{check_refuses, check_passes}
use Rattle.bridge_auction.specs.Auction.{auction}
use Rattle.bridge_auction.specs.declared.calls.Auction.{Auction}
use Rattle.auction.specs.Bids.{unknown_from, calls_of}
use Rattle.auction.specs.Check.{bids_of, bid_unknown, check_auction}
use Rattle.auction.specs.Judging.{judged}

-- The fresh board

-- the calls ws over the text s, lent as those of a fresh board without a card
abbrev bare : (s ws : List ℕ) → Lent
bare s ws = lent s (board_of (head_of fresh_board) []) ws []

-- its names are empty, which no check meets: of its texts those of the calls are left
spans-bare : (s ws : List ℕ) (f : Span → Bool) → f (span 0 0) ≡ false → any f (lent_spans (bare s ws)) ≡ any f (call_spans (map call_in (call_rows ws)))
unfolding any lent_spans lent_board
spans-bare s ws f e = simp e

empty_within : (s : List ℕ) → passes_end s (span 0 0) ≡ false
empty_within s = le-ltb (length s) 0 (omega arith)

empty_utf8 : (s : List ℕ) → ill_span s (span 0 0) ≡ false
unfolding part utf8 utf
empty_utf8 s = refl

checks-bare : (other : Bool) (s ws : List ℕ) → lent_checks other (bare s ws)
    ≡ too_long s ∷ refuse_if (other || any bad_flag (call_rows ws)) OutOfRange ∷ past_end s (call_spans (map call_in (call_rows ws))) ∷ span_not_utf8 s (call_spans (map call_in (call_rows ws))) ∷ []
unfolding lent_checks bad_number any
checks-bare other s ws = rw (spans-bare s ws (passes_end s) (empty_within s), spans-bare s ws (ill_span s) (empty_utf8 s))

-- The answer, by the verdict of these checks

module _ (other : Bool) (s ws : List ℕ) (d : Seat) (h : Head) (is : h ≡ head_of fresh_board) (v : Result Unit Refusal)
    (e : (counts : List ℕ) → v ≡ checked other (lent s (board_of h counts) ws [])) where
  fresh : v ≡ checked other (bare s ws)
  fresh = rw is at (e [])

  pub check_stops : (r : Refusal) → v ≡ Err r → Err r ≡ check_auction other s d (call_rows ws)
  unfolding check_auction judged
  check_stops r k = sym (let z = check_refuses other (bare s ws) v fresh (bid_unknown (bids_of s (call_rows ws)) ∷ []) (auction d (calls_of (bids_of s (call_rows ws)))) r k in rw (checks-bare other s ws) at z)

  pub check_goes_on : v ≡ (Ok tt) → judged d (bids_of s (call_rows ws)) ≡ check_auction other s d (call_rows ws)
  unfolding check_auction judged
  check_goes_on k = sym (let z = check_passes other (bare s ws) v fresh (bid_unknown (bids_of s (call_rows ws)) ∷ []) (auction d (calls_of (bids_of s (call_rows ws)))) k in rw (checks-bare other s ws) at z)

-- 9, or what the calls are

module _ (d : Seat) (bs : List (List ℕ)) (f : Option ℕ) (e : f ≡ unknown_from 0 bs) where
  pub judge_unknown : (k : ℕ) → f ≡ Some k → Err (BidUnknown k) ≡ judged d bs
  unfolding judged unless
  judge_unknown k is = rw (← e, is)

  pub judge_known : f ≡ None → (r : Auction) → r ≡ auction d (calls_of bs) → Ok r ≡ judged d bs
  unfolding judged unless
  judge_known is r a = rw (← e, is, a)
