-- Laws of the number that digits give, for a loop that stops counting at a bound. (01: Board, mc)
-- Assumes nothing.
use Rattle.std.specs.Prelude.{Option, None, Some}
use Prim.Native.Nat.{ℕ, suc, ◌+◌, ◌*◌, ◌-◌, ◌≤◌, ◌<◌, min}
use native.Mathlib.Numerals.{add-one}
use native.Mathlib.Omega.{arith}
use mathlib.Core.Path.{◌≡◌, refl, sym, subst, ◌∙◌}
use mathlib.Core.Bool.{true, false, ◌&&◌, not, and-false}
use mathlib.Core.List.{List, [], ◌∷◌}
use lib.ListN.{length, get_or, drop, drop_of_length-le}
use lib.Seq.{drop-cons}
use borrow.Author.Tests.{leb-true, le-leb, lt-leb}
use lib.Dec.{leb}
use Rattle.lin_spec.specs.Base.{null, all}
use Rattle.lin_spec.proofs.Base.{and_right, picked, split}
use Rattle.lin_spec.specs.Board.{is_digit, all_digits, value_from, after_plus, number_in}

-- a number that is past the bound stays past it
value_least : (n : ℕ) (s : List ℕ) → n ≤ value_from n s
unfolding value_from
value_least n [] = omega arith
value_least n (b ∷ s) = let l = value_least (n * 10 + (b - 0x30)) s in omega arith

value-more : (m n : ℕ) (s : List ℕ) → m ≤ n → value_from m s ≤ value_from n s
unfolding value_from
value-more m n [] h = h
value-more m n (b ∷ s) h = value-more (m * 10 + (b - 0x30)) (n * 10 + (b - 0x30)) s (omega arith)

-- so counting may stop at the bound
capped : (n top : ℕ) (s : List ℕ) → min (value_from (min n top) s) top ≡ min (value_from n s) top
capped n top s = split n top (λ h. same h) (λ h. over h)
  where
    same : n < top → min (value_from (min n top) s) top ≡ min (value_from n s) top
    same h = let e : min n top ≡ n = omega arith in rw e refl

    over : top ≤ n → min (value_from (min n top) s) top ≡ min (value_from n s) top
    over h =
        let e : min n top ≡ top = omega arith in
        let l = value_least n s in
        let m = value_least top s in
        rw e (let z : min (value_from top s) top ≡ min (value_from n s) top = omega arith in z)

-- The loop over the digits t from i on: what is left to test, and what is left to count

pub record Counted (t : List ℕ) (top i n : ℕ) : Type 0 where
  pub within : i ≤ length t
  pub digits : all_digits (drop i t) ≡ all_digits t
  pub value : min (value_from n (drop i t)) top ≡ min (value_from 0 t) top
  pub least : n ≤ top

module _ (t : List ℕ) (top i n : ℕ) (c : Counted t top i n) (h : i < length t) where
  pub count_turn : is_digit (get_or t i 0) ≡ true → (m : ℕ) → m ≡ min (n * 10 + (get_or t i 0 - 0x30)) top → Counted t top (i + 1) m
  unfolding all value_from
  count_turn d m e =
      let k = drop-cons t i 0 h in
      record {
        within = omega (arith, h);
        digits = rw add-one (let z = c.digits in rw (k, d) at z);
        value = rw (add-one, e) (capped (n * 10 + (get_or t i 0 - 0x30)) top (drop (suc i) t) ∙ (let z = c.value in rw k at z));
        least = omega (arith, e);
      }

  count-bad : is_digit (get_or t i 0) ≡ false → all_digits t ≡ false
  unfolding all
  count-bad d = sym c.digits ∙ (rw (drop-cons t i 0 h, d) refl)

-- the answers
module _ (s t : List ℕ) (bound : ℕ) (e : t ≡ after_plus s) where
  pub number_empty : length t ≡ 0 → None ≡ number_in bound s
  unfolding number_in
  number_empty h = go t refl h
    where
      go : (u : List ℕ) → t ≡ u → length u ≡ 0 → None ≡ number_in bound s
      go [] k l = simp (← e, k)
      go (b ∷ u) k l = absurd (let z : ⊥ = omega arith in z)

  pub number-bad : (top i n : ℕ) → Counted t top i n → i < length t → is_digit (get_or t i 0) ≡ false → None ≡ number_in bound s
  unfolding number_in
  number-bad top i n c h d = simp (← e, count-bad t top i n c h d, and-false)

  full : (top i n : ℕ) → Counted t top i n → length t ≤ i → (all_digits t ≡ true) × (min n top ≡ min (value_from 0 t) top)
  unfolding all value_from
  full top i n c h =
      let k = drop_of_length-le t h in
      (sym c.digits ∙ rw k refl, (let z = c.value in rw k at z))

  not_empty : (length t ≡ 0 → ⊥) → null t ≡ false
  not_empty h = go t h
    where
      go : (u : List ℕ) → (length u ≡ 0 → ⊥) → null u ≡ false
      go [] k = absurd (k refl)
      go (b ∷ u) k = refl

  pub number_is : (length t ≡ 0 → ⊥) → (top i n : ℕ) → top ≡ bound + 1 → Counted t top i n → length t ≤ i → n < top → Some n ≡ number_in bound s
  unfolding number_in
  number_is z top i n et c h l =
      let f = full top i n c h in
      let g = f.1 in
      let v : value_from 0 t ≡ n = omega arith in
      simp (← e, not_empty z, f.0, v, le-leb n bound (omega arith))

  pub number-over : (length t ≡ 0 → ⊥) → (top i n : ℕ) → top ≡ bound + 1 → Counted t top i n → length t ≤ i → top ≤ n → None ≡ number_in bound s
  unfolding number_in
  number-over z top i n et c h l =
      let f = full top i n c h in
      let g = f.1 in
      simp (← e, not_empty z, f.0, lt-leb (value_from 0 t) bound (omega arith))

-- a number that was read is at most the bound
abbrev Most : (bound : ℕ) → Option ℕ → Type 0
Most bound None = Unit
Most bound (Some n) = n ≤ bound

most : (bound : ℕ) (s : List ℕ) → Most bound (number_in bound s)
unfolding number_in
most bound s =
    let t = after_plus s in
    picked (Most bound) (not (null t) && (all_digits t && leb (value_from 0 t) bound))
    (λ e. leb-true (value_from 0 t) bound (and_right (all_digits t) _ (and_right (not (null t)) _ e))) (λ _. tt)

pub number_most : (bound : ℕ) (s : List ℕ) (r : Option ℕ) (n : ℕ) → r ≡ number_in bound s → r ≡ Some n → n ≤ bound
number_most bound s r n e f = subst (Most bound) (sym e ∙ f) (most bound s)
