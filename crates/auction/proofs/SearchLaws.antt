-- The search for a bid that is none of the forms, row by row. (02: N1, "with the least such index") Assumes nothing.
use Rattle.std.specs.Prelude.{None, Some, Option}
use Rattle.bridge_auction.specs.declared.calls.AuctionCall.{AuctionCall}
use Prim.Native.Nat.{ℕ, ◌+◌, ◌/◌, ◌≤◌, ◌<◌}
use native.Mathlib.Numerals.{add-one}
use mathlib.Core.Path.{◌≡◌, refl, ap, sym, ◌∙◌}
use mathlib.Core.Bool.{Bool, true, false}
use mathlib.Core.List.{List, [], ◌∷◌, map}
use lib.ListN.{length, get_or, drop, drop_of_length-le}
use lib.Seq.{drop-cons}
use Rattle.std.specs.Simd.{first_chunks}
use Rattle.lin_spec.specs.Records.{bytes_at}
use Rattle.lin_spec.specs.Lent.{call_row, call_rows}
use Rattle.board_lent.specs.Calls.{call_of}
use Rattle.board_lent.proofs.LentLaws.{rows-chunks}
use Rattle.auction.specs.Bids.{read_bid, known, unknown_from}
use Rattle.auction.specs.Check.{bids_of}

-- the rows by their chunks
pub rows-are : (ws : List ℕ) (rs : List (List ℕ)) → rs ≡ first_chunks 6 (length ws / 6) ws → map call_of rs ≡ call_rows ws
rows-are ws rs e = sym (rows-chunks call_row ws ∙ ap (map call_of) (sym e))

-- the bids from row i on
abbrev pub bids_from : (s : List ℕ) (rs : List (List ℕ)) (i : ℕ) → List (List ℕ)
bids_from s rs i = bids_of s (map call_of (drop i rs))

pub bids_cons : (s : List ℕ) (rs : List (List ℕ)) (i : ℕ) → i < length rs → bids_from s rs i ≡ bytes_at s (call_of (get_or rs i [])).bid ∷ bids_from s rs (i + 1)
bids_cons s rs i h = rw (add-one, drop-cons rs i [] h) refl

pub bids_end : (s : List ℕ) (rs : List (List ℕ)) (i : ℕ) → length rs ≤ i → bids_from s rs i ≡ []
bids_end s rs i h = rw (drop_of_length-le rs h) refl

-- all bids before row i are of the forms
abbrev pub Searched : (s : List ℕ) (rs : List (List ℕ)) (i : ℕ) → Type 0
Searched s rs i = unknown_from i (bids_from s rs i) ≡ unknown_from 0 (bids_from s rs 0)

module _ (s : List ℕ) (rs : List (List ℕ)) (i : ℕ) (v : Searched s rs i) where
  pub search_end : length rs ≤ i → None ≡ unknown_from 0 (bids_from s rs 0)
  unfolding unknown_from
  search_end h = (let z = rw (bids_end s rs i h) at v in z)

  module _ (h : i < length rs) (b : Option AuctionCall) (e : b ≡ read_bid (bytes_at s (call_of (get_or rs i [])).bid)) (t : Bool) (k : t ≡ known b) where
    pub search_found : t ≡ false → Some i ≡ unknown_from 0 (bids_from s rs 0)
    unfolding unknown_from
    search_found f =
        let n : known (read_bid (bytes_at s (call_of (get_or rs i [])).bid)) ≡ false = ap known (sym e) ∙ sym k ∙ f in
        (let z : unknown_from i (bids_from s rs i) ≡ Some i = rw (bids_cons s rs i h) (simp n) in sym z) ∙ v

    pub search_on : t ≡ true → Searched s rs (i + 1)
    unfolding unknown_from
    search_on f =
        let n : known (read_bid (bytes_at s (call_of (get_or rs i [])).bid)) ≡ true = ap known (sym e) ∙ sym k ∙ f in
        let z : unknown_from i (bids_from s rs i) ≡ unknown_from (i + 1) (bids_from s rs (i + 1)) = rw (bids_cons s rs i h) (simp (n, add-one)) in
        sym z ∙ v
