-- Laws of lists, as a loop goes through them: the next word, whether some element passes a test. (01: Records)
-- Assumes nothing.
use Prim.Native.Nat.{ℕ, suc, ◌+◌, ◌≤◌, ◌<◌}
use native.Mathlib.Numerals.{add-one}
use native.Mathlib.Omega.{arith}
use mathlib.Core.Path.{◌≡◌, refl, ap, sym, ◌∙◌}
use mathlib.Core.Bool.{Bool, true, false, ◌||◌}
use mathlib.Core.List.{List, ◌∷◌}
use lib.ListN.{length, get_or, drop, drop_of_length-le}
use lib.Seq.{drop-cons}
use Rattle.lin_spec.specs.Base.{any}

-- one word off the front
pub next_word : (ws : List ℕ) (i j : ℕ) → j ≡ i + 1 → i < length ws → drop i ws ≡ get_or ws i 0 ∷ drop j ws
next_word ws i j e h = drop-cons ws i 0 h ∙ ap (λ (m : ℕ). get_or ws i 0 ∷ drop m ws) (let z : suc i ≡ j = omega arith in z)

-- Whether an element passes a test: none of the first i does

module _ {A : Type 0} (f : A → Bool) (d : A) (xs : List A) (i : ℕ) (v : any f (drop i xs) ≡ any f xs) where
  pub any-end : length xs ≤ i → false ≡ any f xs
  unfolding any
  any-end h = (let z = rw (drop_of_length-le xs h) at v in z)

  module _ (h : i < length xs) (t : Bool) (e : t ≡ f (get_or xs i d)) where
    any_cons : any f (drop i xs) ≡ (t || any f (drop (i + 1) xs))
    unfolding any
    any_cons = rw (add-one, drop-cons xs i d h, e) refl

    pub any_found : t ≡ true → true ≡ any f xs
    any_found q = sym (sym v ∙ any_cons ∙ simp q)

    pub any_next : t ≡ false → any f (drop (i + 1) xs) ≡ any f xs
    any_next q = (let z : any f (drop (i + 1) xs) ≡ (t || any f (drop (i + 1) xs)) = simp q in z) ∙ sym any_cons ∙ v
