-- Who first named a strain for a side, call by call, and the table in which the state keeps it.
-- (02: N1, "the first of the last bidder's side to name its strain") Assumes nothing.
use Prim.Native.Nat.{ℕ, zero, suc, ◌+◌, ◌%◌, ◌<◌, ◌≤◌}
use native.Mathlib.Omega.{arith}
use mathlib.Core.Path.{◌≡◌, refl, ap, sym, ◌∙◌}
use mathlib.Core.Bool.{Bool, true, false, false≢true, and-false}
use mathlib.Core.List.{List, [], ◌∷◌}
use lib.Dec.{eqb}
use lib.ListN.{length, get_or, set, length-set}
use lib.Seq.{get_or-set_same, get_or-set_other}
use borrow.Author.Tests.{eq-eqb, ne_eqb, eqb-true, eqb-false}
use Rattle.lin_spec.proofs.Base.{and_left, and_right}
use Rattle.bridge_auction.specs.Auction.{strain_number, is_bid, last_bid, last_bid_at, strain_of, opened, names, names_for, has_named, first_named}
use Rattle.bridge_auction.specs.State.{slot, name_of, mark}
use Rattle.bridge_auction.specs.declared.calls.Strain.{Strain}
use Rattle.bridge_auction.specs.declared.calls.Strain.TheVariants.{Clubs, Diamonds, Hearts, Spades, NoTrump}
use Rattle.bridge_auction.specs.declared.calls.AuctionCall.{AuctionCall}
use Rattle.bridge_auction.specs.declared.calls.AuctionCall.TheVariants.{Pass, Double, Redouble, Bid}

-- five strains
pub five : (t : Strain) → strain_number t < 5
five Clubs = omega arith
five Diamonds = omega arith
five Hearts = omega arith
five Spades = omega arith
five NoTrump = omega arith

-- strains with the same number are the same: from a number there is a way back
unfoldable strain_at : ℕ → Strain
strain_at zero = Clubs
strain_at (suc zero) = Diamonds
strain_at (suc (suc zero)) = Hearts
strain_at (suc (suc (suc zero))) = Spades
strain_at (suc (suc (suc (suc n)))) = NoTrump

strain_back : (t : Strain) → strain_at (strain_number t) ≡ t
unfolding strain_at
strain_back Clubs = refl
strain_back Diamonds = refl
strain_back Hearts = refl
strain_back Spades = refl
strain_back NoTrump = refl

pub same_strain : (t u : Strain) → strain_number t ≡ strain_number u → t ≡ u
same_strain t u e = sym (strain_back t) ∙ ap strain_at e ∙ strain_back u

-- One call more

-- it names nothing for the side
pub name_other : (side : ℕ) (t : Strain) (h : List AuctionCall) (c : AuctionCall) → names_for side t h c ≡ false → name_of side t (c ∷ h) ≡ name_of side t h
unfolding name_of has_named first_named
name_other side t h c e = go (has_named side t h) refl
  where
    go : (b : Bool) → has_named side t h ≡ b → name_of side t (c ∷ h) ≡ name_of side t h
    go true i = simp i
    go false i = simp (i, e)

-- the side had named the strain
pub name_kept : (side : ℕ) (t : Strain) (h : List AuctionCall) (c : AuctionCall) → has_named side t h ≡ true → name_of side t (c ∷ h) ≡ name_of side t h
unfolding name_of has_named first_named
name_kept side t h c e = simp e

-- it had not, and the call does
pub name_new : (side : ℕ) (t : Strain) (h : List AuctionCall) (c : AuctionCall) → has_named side t h ≡ false → names_for side t h c ≡ true → name_of side t (c ∷ h) ≡ suc (length h % 4)
unfolding name_of has_named first_named
name_new side t h c e i = simp (e, i)

-- a call that is no bid names nothing
pub names-none : (side : ℕ) (t : Strain) (h : List AuctionCall) (c : AuctionCall) → is_bid c ≡ false → names_for side t h c ≡ false
unfolding names_for names
names-none side t h Pass e = and-false (eqb (length h % 2) side)
names-none side t h Double e = and-false (eqb (length h % 2) side)
names-none side t h Redouble e = and-false (eqb (length h % 2) side)
names-none side t h (Bid l u) e = absurd (false≢true (sym e))

-- the table says whether the side has named the strain
pub name_zero : (side : ℕ) (t : Strain) (h : List AuctionCall) → name_of side t h ≡ 0 → has_named side t h ≡ false
unfolding name_of
name_zero side t h e = go (has_named side t h) refl
  where
    go : (b : Bool) → has_named side t h ≡ b → has_named side t h ≡ false
    go true i = let z : suc (first_named side t h % 4) ≡ 0 = simp i at e in absurd (omega arith)
    go false i = i

pub name_some : (side : ℕ) (t : Strain) (h : List AuctionCall) → (name_of side t h ≡ 0 → ⊥) → has_named side t h ≡ true
unfolding name_of
name_some side t h d = go (has_named side t h) refl
  where
    go : (b : Bool) → has_named side t h ≡ b → has_named side t h ≡ true
    go true i = i
    go false i = absurd (d (simp i))

-- The table

pub slot_in : (side : ℕ) (t : Strain) → side < 2 → slot side t < 10
unfolding slot
slot_in side t h = omega (arith, five t)

-- two of the ten are the same place only for the same side and strain
pub slot_apart : (side s : ℕ) (t u : Strain) (h : List AuctionCall) (l : ℕ) → length h % 2 ≡ s → names_for side u h (Bid l t) ≡ false → slot side u ≡ slot s t → ⊥
unfolding slot names_for names
slot_apart side s t u h l e i k =
    let a : strain_number t < 5 = five t in
    let b : strain_number u < 5 = five u in
    let p : length h % 2 ≡ side = omega arith in
    let q : strain_number t ≡ strain_number u = omega arith in
    false≢true (sym i ∙ simp (eq-eqb _ _ p, eq-eqb _ _ q))

-- a place that is taken stays, a free one takes the seat
pub mark-kept : (n : List ℕ) (k seat : ℕ) → 0 < get_or n k 0 → n ≡ mark n k seat
unfolding mark
mark-kept n k seat h = simp (ne_eqb (get_or n k 0) 0 (λ e. omega (arith, e)))

pub mark_free : (n : List ℕ) (k seat : ℕ) → get_or n k 0 ≤ 0 → set n k (seat % 4 + 1) ≡ mark n k seat
unfolding mark
mark_free n k seat h = simp (eq-eqb (get_or n k 0) 0 (omega arith))

pub mark-long : (n : List ℕ) (k seat : ℕ) → length (mark n k seat) ≡ length n
unfolding mark
mark-long n k seat = go (eqb (get_or n k 0) 0) refl
  where
    go : (b : Bool) → eqb (get_or n k 0) 0 ≡ b → length (mark n k seat) ≡ length n
    go true e = simp (e, length-set)
    go false e = simp e

-- the bid names its own strain for its own side, and no other
pub names-own : (h : List AuctionCall) (l s : ℕ) (t : Strain) → length h % 2 ≡ s → names_for s t h (Bid l t) ≡ true
unfolding names_for names
names-own h l s t e = simp (eq-eqb _ _ e, eq-eqb (strain_number t) (strain_number t) refl)

pub names_same : (h : List AuctionCall) (l side : ℕ) (t u : Strain) → names_for side u h (Bid l t) ≡ true → (length h % 2 ≡ side) × (t ≡ u)
unfolding names_for names
names_same h l side t u i =
    let a : Bool = eqb (length h % 2) side in
    let b : Bool = eqb (strain_number t) (strain_number u) in
    (eqb-true _ _ (and_left a b i), same_strain t u (eqb-true _ _ (and_right a b i)))

-- the table after a bid: at its own place, at another, and at any
module _ (n : List ℕ) (h : List AuctionCall) (l s seat : ℕ) (t : Strain) (long : length n ≡ 10) (turn : seat ≡ length h % 4) (side-is : length h % 2 ≡ s) where
  mark-here : get_or n (slot s t) 0 ≡ name_of s t h → get_or (mark n (slot s t) seat) (slot s t) 0 ≡ name_of s t (Bid l t ∷ h)
  unfolding mark
  mark-here e = go (eqb (get_or n (slot s t) 0) 0) refl
    where
      go : (b : Bool) → eqb (get_or n (slot s t) 0) 0 ≡ b → get_or (mark n (slot s t) seat) (slot s t) 0 ≡ name_of s t (Bid l t ∷ h)
      go true z =
          let new : name_of s t (Bid l t ∷ h) ≡ suc (length h % 4) = name_new s t h (Bid l t) (name_zero s t h (sym e ∙ eqb-true _ _ z)) (names-own h l s t side-is) in
          let put : get_or (set n (slot s t) (seat % 4 + 1)) (slot s t) 0 ≡ seat % 4 + 1 = get_or-set_same n (slot s t) (seat % 4 + 1) 0 (omega (arith, slot_in s t (omega arith))) in
          simp z (omega arith)
      go false z =
          let kept : name_of s t (Bid l t ∷ h) ≡ name_of s t h = name_kept s t h (Bid l t) (name_some s t h (λ q. eqb-false _ _ z (e ∙ q))) in
          simp z (omega arith)

  mark_apart : (side : ℕ) (u : Strain) → names_for side u h (Bid l t) ≡ false → get_or (mark n (slot s t) seat) (slot side u) 0 ≡ get_or n (slot side u) 0
  unfolding mark
  mark_apart side u i = go (eqb (get_or n (slot s t) 0) 0) refl
    where
      go : (b : Bool) → eqb (get_or n (slot s t) 0) 0 ≡ b → get_or (mark n (slot s t) seat) (slot side u) 0 ≡ get_or n (slot side u) 0
      go true z = simp (z, get_or-set_other n (slot s t) (slot side u) (seat % 4 + 1) 0 (slot_apart side s t u h l side-is i))
      go false z = simp z

  pub mark_name : ((side : ℕ) (u : Strain) → side < 2 → get_or n (slot side u) 0 ≡ name_of side u h) → (side : ℕ) (u : Strain) → side < 2 → get_or (mark n (slot s t) seat) (slot side u) 0 ≡ name_of side u (Bid l t ∷ h)
  mark_name table side u low = go (names_for side u h (Bid l t)) refl
    where
      go : (b : Bool) → names_for side u h (Bid l t) ≡ b → get_or (mark n (slot s t) seat) (slot side u) 0 ≡ name_of side u (Bid l t ∷ h)
      go false i = mark_apart side u i ∙ table side u low ∙ sym (name_other side u h (Bid l t) i)
      go true i =
          let p : length h % 2 ≡ side = (names_same h l side t u i).0 in
          let q : t ≡ u = (names_same h l side t u i).1 in
          let m : get_or (mark n (slot s t) seat) (slot s t) 0 ≡ name_of s t (Bid l t ∷ h) = mark-here (table s t (omega arith)) in
          cc

-- the strain of the last bid has been named by its caller's side
pub last-named : (h : List AuctionCall) → opened h ≡ true → has_named (last_bid_at h % 2) (strain_of (last_bid h)) h ≡ true
unfolding opened last_bid last_bid_at has_named
last-named [] e = absurd (false≢true e)
last-named (Pass ∷ h) e = simp (last-named h e)
last-named (Double ∷ h) e = simp (last-named h e)
last-named (Redouble ∷ h) e = simp (last-named h e)
last-named (Bid l t ∷ h) e = go (has_named (length h % 2) t h) refl
  where
    go : (b : Bool) → has_named (length h % 2) t h ≡ b → has_named (length h % 2) t (Bid l t ∷ h) ≡ true
    go true i = simp i
    go false i = simp (i, names-own h l (length h % 2) t refl)
