-- A bid's bytes by how many they are. (02: N1) Assumes nothing.
use Rattle.std.specs.Prelude.{Option, Some, None}
use Rattle.bridge_auction.specs.declared.calls.AuctionCall.{AuctionCall}
use Prim.Native.Nat.{ℕ, ◌-◌, ◌<◌, ◌≤◌}
use native.Mathlib.Omega.{arith}
use mathlib.Core.Path.{◌≡◌, refl, ap, sym, ◌∙◌}
use mathlib.Core.Bool.{true, ◌&&◌, and-false}
use mathlib.Core.List.{List, [], ◌∷◌}
use lib.Dec.{eqb}
use lib.ListN.{length, get_or}
use borrow.Author.Tests.{eq-eqb, ne_eqb, le-leb, lt-leb}
use Rattle.lin_spec.specs.Base.{pick, eq_all, eq_list, ascii}
use Rattle.lin_spec.specs.White.{lower}
use Rattle.auction.specs.Bids.{strain_by, bid_by, level_and_strain, read_lower, read_bid}
use Rattle.bridge_auction.specs.declared.calls.Strain.{Strain}
use Rattle.bridge_auction.specs.declared.calls.Strain.TheVariants.{NoTrump}
use Rattle.bridge_auction.specs.declared.calls.AuctionCall.TheVariants.{Bid}

-- A level with a strain

pub level_low : (b : ℕ) (n : Option Strain) (t : Strain) → n ≡ Some t → b < 49 → None ≡ bid_by b n
unfolding bid_by
level_low b n t e h = rw e (simp (lt-leb 49 b h))

pub level_high : (b : ℕ) (n : Option Strain) (t : Strain) → n ≡ Some t → 49 ≤ b → 55 < b → None ≡ bid_by b n
unfolding bid_by
level_high b n t e l h = rw e (simp (le-leb 49 b l, lt-leb b 55 h))

pub level_fits : (b : ℕ) (n : Option Strain) (t : Strain) → n ≡ Some t → 49 ≤ b → b ≤ 55 → Some (Bid (b - 48) t) ≡ bid_by b n
unfolding bid_by
level_fits b n t e l h = rw e (simp (le-leb 49 b l, le-leb b 55 h))

pub level_none : (b : ℕ) (n : Option Strain) → n ≡ None → None ≡ bid_by b n
unfolding bid_by
level_none b n e = rw e

-- Two bytes or more

long-form : (x y : ℕ) (w : List ℕ) → read_lower (x ∷ y ∷ w) ≡ bid_by x (strain_by (y ∷ w))
unfolding read_lower level_and_strain eq_all
long-form x y w = simp and-false

long_strain : (y z : ℕ) (w : List ℕ) → strain_by (y ∷ z ∷ w) ≡ pick (eqb y 110 && eq_list (z ∷ w) (ascii "t")) (Some NoTrump) None
unfolding strain_by eq_all
long_strain y z w = simp and-false

-- What the code answers

pub read_one : (s : List ℕ) (b : ℕ) (r : Option AuctionCall) → length s ≡ 1 → b ≡ lower (get_or s 0 0) → r ≡ read_lower (b ∷ []) → r ≡ read_bid s
unfolding read_bid
read_one [] b r n e i = absurd (omega arith)
read_one (x ∷ []) b r n e i = i ∙ rw e
read_one (x ∷ y ∷ s) b r n e i = absurd (omega arith)

pub read-two : (s : List ℕ) (a b : ℕ) (n : Option Strain) (r : Option AuctionCall) → length s ≡ 2 → b ≡ lower (get_or s 1 0) → n ≡ strain_by (b ∷ []) → a ≡ lower (get_or s 0 0) → r ≡ bid_by a n → r ≡ read_bid s
unfolding read_bid
read-two [] a b n r k e i f j = absurd (omega arith)
read-two (x ∷ []) a b n r k e i f j = absurd (omega arith)
read-two (x ∷ y ∷ []) a b n r k e i f j = rw (j, i, e, f) (sym (long-form (lower x) (lower y) []))
read-two (x ∷ y ∷ z ∷ s) a b n r k e i f j = absurd (omega arith)

pub read-other : (s : List ℕ) → (length s ≡ 1 → ⊥) → (length s ≡ 2 → ⊥) → (length s ≡ 3 → ⊥) → None ≡ read_bid s
unfolding read_bid read_lower level_and_strain bid_by eq_all
read-other [] a b c = refl
read-other (x ∷ []) a b c = absurd (a refl)
read-other (x ∷ y ∷ []) a b c = absurd (b refl)
read-other (x ∷ y ∷ z ∷ []) a b c = absurd (c refl)
read-other (x ∷ y ∷ z ∷ w ∷ s) a b c = simp (and-false, long_strain)

three_form : (s : List ℕ) → length s ≡ 3 → read_bid s ≡ bid_by (lower (get_or s 0 0)) (pick (eqb (lower (get_or s 1 0)) 110 && (eqb (lower (get_or s 2 0)) 116 && true)) (Some NoTrump) None)
unfolding read_bid eq_all
three_form [] k = absurd (omega arith)
three_form (x ∷ []) k = absurd (omega arith)
three_form (x ∷ y ∷ []) k = absurd (omega arith)
three_form (x ∷ y ∷ z ∷ []) k = long-form (lower x) (lower y) (lower z ∷ []) ∙ ap (bid_by (lower x)) (long_strain (lower y) (lower z) [])
three_form (x ∷ y ∷ z ∷ w ∷ s) k = absurd (omega arith)

pub read_no_n : (s : List ℕ) (b : ℕ) → length s ≡ 3 → b ≡ lower (get_or s 1 0) → (b ≡ 110 → ⊥) → None ≡ read_bid s
unfolding bid_by
read_no_n s b k e d = rw (three_form s k) (simp (sym e, ne_eqb b 110 d))

pub read_no_t : (s : List ℕ) (b d : ℕ) → length s ≡ 3 → b ≡ lower (get_or s 1 0) → b ≡ 110 → d ≡ lower (get_or s 2 0) → (d ≡ 116 → ⊥) → None ≡ read_bid s
unfolding bid_by
read_no_t s b d k e i f j = rw (three_form s k) (simp (sym e, eq-eqb b 110 i, sym f, ne_eqb d 116 j))

pub read_nt : (s : List ℕ) (a b d : ℕ) (r : Option AuctionCall) → length s ≡ 3 → b ≡ lower (get_or s 1 0) → b ≡ 110 → d ≡ lower (get_or s 2 0) → d ≡ 116 → a ≡ lower (get_or s 0 0) → r ≡ bid_by a (Some NoTrump) → r ≡ read_bid s
read_nt s a b d r k e i f j g q = rw (three_form s k, q) (simp (sym g, sym e, eq-eqb b 110 i, sym f, eq-eqb d 116 j))
