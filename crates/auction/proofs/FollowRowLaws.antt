-- The calls of rows, followed row by row. (02: N1, "Starting from the dealer") Assumes nothing.
use Rattle.std.specs.Prelude.{Option}
use Prim.Native.Nat.{ℕ, ◌+◌, ◌≤◌, ◌<◌}
use mathlib.Core.Path.{◌≡◌, ap}
use mathlib.Core.Bool.{Bool, true, false}
use mathlib.Core.List.{List, [], ◌∷◌}
use lib.ListN.{length, get_or}
use Rattle.lin_spec.specs.Records.{bytes_at}
use Rattle.lin_spec.specs.declared.Seat.{Seat}
use Rattle.board_lent.specs.Calls.{call_of}
use Rattle.bridge_auction.specs.Auction.{lawful, outcome, auction}
use Rattle.bridge_auction.specs.State.{Ties, Followed}
use Rattle.bridge_auction.specs.declared.calls.AuctionCall.{AuctionCall}
use Rattle.bridge_auction.specs.declared.calls.Auction.{Auction}
use Rattle.bridge_auction.specs.declared.calls.Auction.TheVariants.{Unlawful}
use Rattle.bridge_auction.specs.declared.state.AuctionState.{AuctionState}
use Rattle.bridge_auction.proofs.FollowLaws.{begun, stopped, stepped, finished}
use Rattle.auction.specs.Bids.{read_bid, call_by, calls_of}
use Rattle.auction.proofs.SearchLaws.{bids_from, bids_cons, bids_end}

-- the calls from row i on
abbrev pub calls_from : (s : List ℕ) (rs : List (List ℕ)) (i : ℕ) → List AuctionCall
calls_from s rs i = calls_of (bids_from s rs i)

calls_cons : (s : List ℕ) (rs : List (List ℕ)) (i : ℕ) → i < length rs → calls_from s rs i ≡ call_by (read_bid (bytes_at s (call_of (get_or rs i [])).bid)) ∷ calls_from s rs (i + 1)
unfolding calls_of
calls_cons s rs i h = ap calls_of (bids_cons s rs i h)

calls-end : (s : List ℕ) (rs : List (List ℕ)) (i : ℕ) → length rs ≤ i → calls_from s rs i ≡ []
unfolding calls_of
calls-end s rs i h = ap calls_of (bids_end s rs i h)

-- the state has followed the rows before row i
abbrev pub FollowedRows : (s : List ℕ) (rs : List (List ℕ)) (d : Seat) (m : AuctionState) (i : ℕ) → Type 0
FollowedRows s rs d m i = Followed d (calls_from s rs 0) (calls_from s rs i) m i

pub rows-begun : (s : List ℕ) (rs : List (List ℕ)) (d : Seat) (m : AuctionState) → Ties m [] → FollowedRows s rs d m 0
rows-begun s rs d m t = begun d (calls_from s rs 0) m t

module _ (s : List ℕ) (rs : List (List ℕ)) (d : Seat) {m : AuctionState} (i : ℕ) (v : FollowedRows s rs d m i) where
  module _ (h : i < length rs) (r : Option AuctionCall) (e : r ≡ read_bid (bytes_at s (call_of (get_or rs i [])).bid)) (c : AuctionCall) (k : c ≡ call_by r)
      (b : Bool) (says : (g : List AuctionCall) → Ties m g → b ≡ lawful g c) where
    front : calls_from s rs i ≡ c ∷ calls_from s rs (i + 1)
    front = rw (k, e) (calls_cons s rs i h)

    pub rows_stopped : b ≡ false → Unlawful i ≡ auction d (calls_from s rs 0)
    rows_stopped = stopped v c (calls_from s rs (i + 1)) front b says

    pub rows_stepped : (m' : AuctionState) → b ≡ true → ((g : List AuctionCall) → Ties m g → lawful g c ≡ true → Ties m' (c ∷ g)) → FollowedRows s rs d m' (i + 1)
    rows_stepped m' f next = stepped v c (calls_from s rs (i + 1)) front b says m' f next

  pub rows_finished : length rs ≤ i → (r : Auction) → ((g : List AuctionCall) → Ties m g → r ≡ outcome d g) → r ≡ auction d (calls_from s rs 0)
  rows_finished h = finished v (calls-end s rs i h)
