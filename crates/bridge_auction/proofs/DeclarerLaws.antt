-- The declarer is the first of the last bidder's side to name the strain.
-- (02: N1, "declarer, the first of the last bidder's side to name its strain") Assumes nothing.
use Prim.Native.Nat.{ℕ, ◌+◌, ◌%◌, ◌<◌}
use native.Mathlib.Omega.{arith}
use mathlib.Core.Path.{◌≡◌, refl, ap, sym, ◌∙◌}
use mathlib.Core.Bool.{Bool, true, false, false≢true}
use mathlib.Core.List.{List, [], ◌∷◌}
use lib.Dec.{eqb, ltb}
use lib.ListN.{length}
use borrow.Author.Tests.{eq-eqb, ne_eqb, eqb-true, eqb-false, ltb-true, ltb-false}
use Rattle.lin_spec.specs.Letters.{seat_number}
use Rattle.lin_spec.specs.declared.Seat.{Seat}
use Rattle.lin_spec.proofs.Base.{and_left, and_right}
use Rattle.lin_spec.proofs.Seats.{seat_number_lem}
use Rattle.bridge_auction.specs.Auction.{is_bid, names, last_bid, latest, opened, last_bid_at, strain_of, names_for, has_named, first_named, declaring, caller, declarer, contract}
use Rattle.bridge_auction.specs.AuctionMeaning.{made_at, FirstToName, SameSide, Declares}
use Rattle.bridge_auction.specs.declared.calls.Strain.{Strain}
use Rattle.bridge_auction.specs.declared.calls.AuctionCall.{AuctionCall}
use Rattle.bridge_auction.specs.declared.calls.AuctionCall.TheVariants.{Pass, Double, Redouble, Bid}
use Rattle.bridge_auction.proofs.NameLaws.{last-named}

-- the latest call, and an earlier one
pub call_now : (c : AuctionCall) (h : List AuctionCall) → made_at (length h) (c ∷ h) ≡ c
unfolding made_at
call_now c h = simp (eq-eqb (length h) (length h) refl)

pub latest_now : (i : ℕ) (c : AuctionCall) (h : List AuctionCall) → i ≡ length h → made_at i (c ∷ h) ≡ c
latest_now i c h e = rw e (call_now c h)

pub call-before : (i : ℕ) (c : AuctionCall) (h : List AuctionCall) → i < length h → made_at i (c ∷ h) ≡ made_at i h
unfolding made_at
call-before i c h k = simp (ne_eqb i (length h) (λ e. omega arith))

-- where a side has not named a strain, none of its calls does
unnamed_now : (side : ℕ) (t : Strain) (c : AuctionCall) (h : List AuctionCall) → has_named side t (c ∷ h) ≡ false → (has_named side t h ≡ false) × (names_for side t h c ≡ false)
unfolding has_named
unnamed_now side t c h e = go (has_named side t h) refl
  where
    go : (b : Bool) → has_named side t h ≡ b → (has_named side t h ≡ false) × (names_for side t h c ≡ false)
    go true i = absurd (false≢true (sym (simp i at e)))
    go false i = (i, simp i at e)

not_own : (side : ℕ) (t : Strain) (c : AuctionCall) (h : List AuctionCall) → names_for side t h c ≡ false → length h % 2 ≡ side → names t c ≡ false
unfolding names_for
not_own side t c h e o = simp (eq-eqb _ _ o) at e

unnamed : (side : ℕ) (t : Strain) (h : List AuctionCall) → has_named side t h ≡ false → (i : ℕ) → i < length h → i % 2 ≡ side → names t (made_at i h) ≡ false
unnamed side t [] e i k o = absurd (omega arith)
unnamed side t (c ∷ h) e i k o = go (eqb i (length h)) refl (unnamed side t h (unnamed_now side t c h e).0 i)
  where
    go : (b : Bool) → eqb i (length h) ≡ b → (i < length h → i % 2 ≡ side → names t (made_at i h) ≡ false) → names t (made_at i (c ∷ h)) ≡ false
    go true q ih =
        let p : i ≡ length h = eqb-true _ _ q in
        rw p (rw (call_now c h) (not_own side t c h (unnamed_now side t c h e).1 (omega arith)))
    go false q ih =
        let p : i ≡ length h → ⊥ = eqb-false _ _ q in
        let w : i < length h = omega arith in
        rw (call-before i c h w) (ih w o)

-- where it has, the call of the index that is answered is the first
pub first-to_name : (side : ℕ) (t : Strain) (h : List AuctionCall) → has_named side t h ≡ true → FirstToName side t h (first_named side t h)
unfolding has_named first_named names_for
first-to_name side t [] e = absurd (false≢true e)
first-to_name side t (c ∷ h) e = go (has_named side t h) refl (first-to_name side t h)
  where
    kept : FirstToName side t h (first_named side t h) → FirstToName side t (c ∷ h) (first_named side t h)
    kept f = record {
      inside = omega (arith, f.inside);
      own = f.own;
      does = rw (call-before (first_named side t h) c h f.inside) f.does;
      first = λ i k o. let w : i < length h = omega (arith, f.inside) in rw (call-before i c h w) (f.first i k o);
    }

    new : has_named side t h ≡ false → names_for side t h c ≡ true → FirstToName side t (c ∷ h) (length h)
    new i n = record {
      inside = omega arith;
      own = eqb-true _ _ (and_left (eqb (length h % 2) side) (names t c) n);
      does = rw (call_now c h) (and_right (eqb (length h % 2) side) (names t c) n);
      first = λ j k o. rw (call-before j c h k) (unnamed side t h i j k o);
    }

    go : (b : Bool) → has_named side t h ≡ b → (has_named side t h ≡ true → FirstToName side t h (first_named side t h)) → FirstToName side t (c ∷ h) (first_named side t (c ∷ h))
    go true i ih = rw i (kept (ih i))
    go false i ih = rw i (new i (simp i at e))

-- "declarer, the first of the last bidder's side to name its strain"
pub declarer-first : (h : List AuctionCall) → opened h ≡ true → FirstToName (last_bid_at h % 2) (strain_of (last_bid h)) h (declaring h)
unfolding declaring
declarer-first h e = first-to_name _ _ h (last-named h e)

-- what stands in a history stands in a longer one
later : (i : ℕ) (c d : AuctionCall) (h : List AuctionCall) → (i < length h) × (made_at i h ≡ c) → (i < length (d ∷ h)) × (made_at i (d ∷ h) ≡ c)
later i c d h k = (omega (arith, k.0), call-before i d h k.0 ∙ k.1)

-- one call more that is no bid
later-none : (i : ℕ) (c : AuctionCall) (h : List AuctionCall) → is_bid c ≡ false → (i < length h → is_bid (made_at i h) ≡ false) → i < length (c ∷ h) → is_bid (made_at i (c ∷ h)) ≡ false
later-none i c h n ih w = go (eqb i (length h)) refl
  where
    go : (b : Bool) → eqb i (length h) ≡ b → is_bid (made_at i (c ∷ h)) ≡ false
    go true q = rw (latest_now i c h (eqb-true _ _ q)) n
    go false q = let d : i ≡ length h → ⊥ = eqb-false _ _ q in let k : i < length h = omega arith in rw (call-before i c h k) (ih k)

-- "the last bidder": the last bid is the call of its index
pub last-there : (h : List AuctionCall) → opened h ≡ true → (last_bid_at h < length h) × (made_at (last_bid_at h) h ≡ last_bid h)
unfolding opened last_bid last_bid_at
last-there [] e = absurd (false≢true e)
last-there (Pass ∷ h) e = later _ _ Pass h (last-there h e)
last-there (Double ∷ h) e = later _ _ Double h (last-there h e)
last-there (Redouble ∷ h) e = later _ _ Redouble h (last-there h e)
last-there (Bid l t ∷ h) e = (omega arith, call_now (Bid l t) h)

-- and no later call is a bid
pub last-last : (h : List AuctionCall) (i : ℕ) → last_bid_at h < i → i < length h → is_bid (made_at i h) ≡ false
unfolding last_bid_at
last-last [] i k w = absurd (omega arith)
last-last (Pass ∷ h) i k w = later-none i Pass h refl (last-last h i k) w
last-last (Double ∷ h) i k w = later-none i Double h refl (last-last h i k) w
last-last (Redouble ∷ h) i k w = later-none i Redouble h refl (last-last h i k) w
last-last (Bid l t ∷ h) i k w = absurd (omega arith)

-- The seats

-- "Starting from the dealer": a caller's number is the dealer's and the index, by 4
pub caller-number : (d : Seat) (i : ℕ) → seat_number (caller d i) ≡ (seat_number d + i) % 4
unfolding caller
caller-number d i = seat_number_lem ((seat_number d + i) % 4) (omega arith)

-- "side": two callers are of one side exactly when both indexes are even or both are odd
caller_side : (d : Seat) (i : ℕ) → seat_number (caller d i) % 2 ≡ (seat_number d + i) % 2
caller_side d i = rw (caller-number d i) (omega arith)

alike : (n i j : ℕ) → i % 2 ≡ j % 2 → (n + i) % 2 ≡ (n + j) % 2
alike n i j e = omega arith

unlike : (n i j : ℕ) → (n + i) % 2 ≡ (n + j) % 2 → i % 2 ≡ j % 2
unlike n i j e = omega arith

pub same-side : (d : Seat) (i j : ℕ) → i % 2 ≡ j % 2 → SameSide (caller d i) (caller d j)
same-side d i j e = caller_side d i ∙ alike (seat_number d) i j e ∙ sym (caller_side d j)

pub side_same : (d : Seat) (i j : ℕ) → SameSide (caller d i) (caller d j) → i % 2 ≡ j % 2
side_same d i j e = unlike (seat_number d) i j (sym (caller_side d i) ∙ e ∙ caller_side d j)

-- "declarer, the first of the last bidder's side to name its strain", by seats
pub declarer_declares : (d : Seat) (h : List AuctionCall) → opened h ≡ true → Declares d h (declarer d h)
unfolding declarer
declarer_declares d h e =
    let f : FirstToName (last_bid_at h % 2) (strain_of (last_bid h)) h (declaring h) = declarer-first h e in
    record { index = declaring h; inside = f.inside; own = refl; side = same-side d (declaring h) (last_bid_at h) f.own; does = f.does; first = λ i k o. f.first i k (side_same d i (last_bid_at h) o) }

-- and no other seat is
pub declarer-only : (d : Seat) (h : List AuctionCall) (x : Seat) → opened h ≡ true → Declares d h x → x ≡ declarer d h
unfolding declarer
declarer-only d h x e r = sym r.own ∙ ap (caller d) same
  where
    f : FirstToName (last_bid_at h % 2) (strain_of (last_bid h)) h (declaring h)
    f = declarer-first h e

    own : SameSide (caller d r.index) (caller d (last_bid_at h))
    own = rw r.own r.side

    early : r.index < declaring h → ⊥
    early k = false≢true (sym (f.first r.index k (side_same d r.index (last_bid_at h) own)) ∙ r.does)

    late : declaring h < r.index → ⊥
    late k = false≢true (sym (r.first (declaring h) k (same-side d (declaring h) (last_bid_at h) f.own)) ∙ f.does)

    go : (a : Bool) → ltb r.index (declaring h) ≡ a → (b : Bool) → ltb (declaring h) r.index ≡ b → r.index ≡ declaring h
    go true k b w = absurd (early (ltb-true _ _ k))
    go false k true w = absurd (late (ltb-true _ _ w))
    go false k false w = omega (arith, ltb-false r.index (declaring h) k, ltb-false (declaring h) r.index w)

    same : r.index ≡ declaring h
    same = go (ltb r.index (declaring h)) refl (ltb (declaring h) r.index) refl

-- "declarer" sits on the last bidder's side
pub declarer-side : (d : Seat) (h : List AuctionCall) → opened h ≡ true → seat_number (declarer d h) % 2 ≡ seat_number (caller d (last_bid_at h)) % 2
declarer-side d h e = (declarer_declares d h e).side

-- A pass changes nothing of a contract: neither its bid, nor its doubling, nor its declarer.

pub pass_keeps : (d : Seat) (h : List AuctionCall) → opened h ≡ true → contract d (Pass ∷ h) ≡ contract d h
unfolding contract declarer declaring last_bid last_bid_at latest first_named
pass_keeps d h e = simp (last-named h e)
