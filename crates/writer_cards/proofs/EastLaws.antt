-- East and the remainder, card by card, and when East is left out. (01: Writer, md)
-- Assumes nothing.
use Prim.Native.Nat.{ℕ, zero, suc, ◌+◌, ◌*◌, ◌≤◌, ◌<◌}
use native.Mathlib.Nat.{zero-add}
use native.Mathlib.Numerals.{add-one}
use native.Mathlib.Omega.{arith}
use mathlib.Core.Path.{◌≡◌, refl, ap, sym, ◌∙◌}
use mathlib.Core.Bool.{Bool, true, false, ◌&&◌, ◌||◌, not, and-true, or-false}
use mathlib.Core.List.{List, [], ◌∷◌}
use lib.ListN.{length, get_or, drop, drop_of_length-le}
use lib.Dec.{eqb}
use borrow.Author.Tests.{eq-eqb, ne_eqb}
use Rattle.lin_spec.specs.Base.{pick}
use Rattle.lin_spec.specs.Cards.{sum}
use Rattle.lin_spec.specs.Letters.{hand_at}
use Rattle.lin_spec.specs.Writer.{held_in, implied_east}
use Rattle.lin_spec.specs.declared.Seat.TheVariants.{South, West, North, East}
use Rattle.lin_spec.proofs.Records.{part_length}
use Rattle.lin_spec.proofs.Cards.{unheld_at, unheld_length}
use Rattle.cards.proofs.HandLaws.{count_at}
use Rattle.writer_cards.specs.Hands.{others_thirteen, rest_of}

-- The remainder

module _ (d : List ℕ) (l : length d ≡ 208) where
  south-long : length (hand_at d South) ≡ 52
  south-long = part_length d (0 * 52) 52 (omega arith)

  west-long : length (hand_at d West) ≡ 52
  west-long = part_length d (1 * 52) 52 (omega arith)

  north-long : length (hand_at d North) ≡ 52
  north-long = part_length d (2 * 52) 52 (omega arith)

  pub rest-long : length (rest_of d) ≡ 52
  unfolding rest_of
  rest-long = unheld_length 52 (hand_at d South) (hand_at d West) (hand_at d North) south-long west-long north-long

  -- it holds the cards that the counts of the three hands are 0 for
  pub rest_at : (c : ℕ) → c < 52
      → get_or (rest_of d) c 0 ≡ pick (eqb (get_or d c 0) 0 && (eqb (get_or d (52 + c) 0) 0 && eqb (get_or d (104 + c) 0) 0)) 1 0
  unfolding rest_of
  rest_at c h =
      let s : get_or (hand_at d South) c 0 ≡ get_or d c 0 = sym (count_at d (0 * 52) 52 c h) ∙ ap (λ (j : ℕ). get_or d j 0) (zero-add c) in
      let w : get_or (hand_at d West) c 0 ≡ get_or d (52 + c) 0 = sym (count_at d (1 * 52) 52 c h) in
      let n : get_or (hand_at d North) c 0 ≡ get_or d (104 + c) 0 = sym (count_at d (2 * 52) 52 c h) in
      unheld_at 52 (hand_at d South) (hand_at d West) (hand_at d North) south-long west-long north-long c h ∙ rw (s, w, n)

  module _ (c : ℕ) (h : c < 52) where
    pub rest_free : (eqb (get_or d c 0) 0 && (eqb (get_or d (52 + c) 0) 0 && eqb (get_or d (104 + c) 0) 0)) ≡ true → 1 ≡ get_or (rest_of d) c 0
    rest_free e = sym (rest_at c h ∙ ap (λ (t : Bool). pick t 1 0) e)

    pub rest-held : (eqb (get_or d c 0) 0 && (eqb (get_or d (52 + c) 0) 0 && eqb (get_or d (104 + c) 0) 0)) ≡ false → 0 ≡ get_or (rest_of d) c 0
    rest-held e = sym (rest_at c h ∙ ap (λ (t : Bool). pick t 1 0) e)

-- Each card of one hand in another

held_none : (a : List ℕ) (i : ℕ) → held_in (drop i a) [] ≡ ((eqb (get_or a i 0) 0 || false) && held_in (drop (suc i) a) [])
unfolding held_in
held_none [] zero = refl
held_none [] (suc i) = refl
held_none (m ∷ a) zero = simp or-false
held_none (m ∷ a) (suc i) = held_none a i

held-suc : (a b : List ℕ) (i : ℕ) → held_in (drop i a) (drop i b) ≡ ((eqb (get_or a i 0) 0 || not (eqb (get_or b i 0) 0)) && held_in (drop (suc i) a) (drop (suc i) b))
unfolding held_in
held-suc [] b zero = refl
held-suc [] b (suc i) = refl
held-suc (m ∷ a) [] zero = held_none (m ∷ a) zero
held-suc (m ∷ a) [] (suc i) = held_none a i
held-suc (m ∷ a) (n ∷ b) zero = refl
held-suc (m ∷ a) (n ∷ b) (suc i) = held-suc a b i

-- one card more is looked at: h says whether those before are held, and what is left decides with it as the whole does
pub held-turn : (a b : List ℕ) (i m n : ℕ) → m ≡ get_or a i 0 → n ≡ get_or b i 0 → (h : Bool) {w : Bool}
    → (h && held_in (drop i a) (drop i b)) ≡ w → ((h && (eqb m 0 || not (eqb n 0))) && held_in (drop (i + 1) a) (drop (i + 1) b)) ≡ w
held-turn a b i m n em en true v = sym (held-suc a b i ∙ rw (← em, ← en, ← add-one i)) ∙ v
held-turn a b i m n em en false v = v

-- and after the last card h says it alone
pub held-end : (a b : List ℕ) (i : ℕ) → length a ≤ i → (h : Bool) {w : Bool} → (h && held_in (drop i a) (drop i b)) ≡ w → h ≡ w
unfolding held_in
held-end a b i l h v = sym (and-true h) ∙ (rw (drop_of_length-le a l) at v)

-- When East is left out

-- whether it has as many cards as the remainder and each of them in it, by the count of the remainder
module _ (e r : List ℕ) (east : ℕ) where
  pub rest-is : (h : Bool) → h ≡ held_in e r → (n : ℕ) → n ≡ sum r → (eqb east n && h) ≡ (eqb east (sum r) && held_in e r)
  rest-is h eh n en = rw (eh, en)

-- by the tests of the code
module _ (d : List ℕ) (t : Bool) (et : t ≡ others_thirteen d) where
  pub implied-few : t ≡ false → false ≡ implied_east d
  unfolding implied_east others_thirteen
  implied-few h = let k = sym et ∙ h in sym (simp k)

  module _ (h : t ≡ true) (east : ℕ) (ee : east ≡ sum (hand_at d East)) where
    pub implied-none : east ≡ 0 → true ≡ implied_east d
    unfolding implied_east others_thirteen
    implied-none k = let w = sym et ∙ h in sym (simp (w, eq-eqb (sum (hand_at d East)) 0 (sym ee ∙ k)))

    pub implied-rest : (east ≡ 0 → ⊥) → (r : Bool) → r ≡ (eqb east (sum (rest_of d)) && held_in (hand_at d East) (rest_of d)) → r ≡ implied_east d
    unfolding implied_east others_thirteen rest_of
    implied-rest k r e = let w = sym et ∙ h in e ∙ sym (simp (w, ne_eqb (sum (hand_at d East)) 0 (λ z. k (ee ∙ z)), ← ee))

-- the three lengths that were taken
pub three_sums : (d : List ℕ) (s w n : ℕ) → s ≡ sum (hand_at d South) → w ≡ sum (hand_at d West) → n ≡ sum (hand_at d North)
    → (eqb s 13 && (eqb w 13 && eqb n 13)) ≡ others_thirteen d
unfolding others_thirteen
three_sums d s w n es ew en = rw (es, ew, en)
