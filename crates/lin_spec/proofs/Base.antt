-- Laws of the small tools that the definitions share: tests that are joined, a choice, a test of all small numbers by computation, lists
-- that are the same, a list that begins with another, what holds of every element, the elements that are kept.
-- Assumes nothing.
use Prim.Native.Nat.{ℕ, zero, suc, ◌+◌, ◌<◌, ◌≤◌}
use native.Mathlib.Nat.{not-suc-le-zero, le_of_suc-le-suc}
use native.Mathlib.Omega.{arith}
use mathlib.Core.Path.{◌≡◌, refl, ap, sym, ◌∙◌}
use mathlib.Core.Bool.{Bool, true, false, ◌&&◌, ◌||◌, false≢true, and-false, or_assoc}
use mathlib.Core.List.{List, [], ◌∷◌, ◌++◌, map}
use lib.ListN.{length, drop, get_or, length-append}
use lib.Dec.{eqb, ltb}
use borrow.Author.Tests.{eq-eqb, eqb-true, eqb-false, ltb-true, ltb-false}
use Rattle.lin_spec.specs.Base.{pick, All, any, keep, count_if, eq_all, eq_list, starts}

-- of two tests that both hold, the first does
pub and_left : (a b : Bool) → (a && b) ≡ true → a ≡ true
and_left true b h = refl
and_left false b h = h

-- of two tests that both hold, the second does
pub and_right : (a b : Bool) → (a && b) ≡ true → b ≡ true
and_right true b h = h
and_right false b h = absurd (false≢true h)

-- of two tests neither of which holds, each does not
pub or_none : (t u : Bool) → (t || u) ≡ false → (t ≡ false) × (u ≡ false)
or_none true u h = absurd (false≢true (sym h))
or_none false u h = (refl, h)

-- some element of lists put one after the other passes a test
pub any_append : {A : Type 0} (f : A → Bool) (x y : List A) → any f (x ++ y) ≡ (any f x || any f y)
unfolding any
any_append f [] y = refl
any_append f (a ∷ x) y = ap (λ (t : Bool). f a || t) (any_append f x y) ∙ sym (or_assoc (f a) (any f x) (any f y))

-- what holds of either choice, given the outcome of the test, holds of the one picked
pub picked : {A : Type 0} (P : A → Type 0) (t : Bool) {a b : A} → (t ≡ true → P a) → (t ≡ false → P b) → P (pick t a b)
picked P true f g = f refl
picked P false f g = g refl

-- a number is below another, or it is not
pub split : {P : Type 0} (a b : ℕ) → (a < b → P) → (b ≤ a → P) → P
split {P} a b f g = go (ltb a b) refl
  where
    go : (t : Bool) → ltb a b ≡ t → P
    go true e = f (ltb-true a b e)
    go false e = g (ltb-false a b e)

-- the test holds of every number below n
unfoldable pub all_below : (ℕ → Bool) → ℕ → Bool
all_below f zero = true
all_below f (suc n) = f n && all_below f n

-- a test that computes to true for every number below n holds of each
pub below : (f : ℕ → Bool) (n : ℕ) → all_below f n ≡ true → (i : ℕ) → i < n → f i ≡ true
unfolding all_below
below f zero h i k = absurd (not-suc-le-zero k)
below f (suc n) h i k = go (eqb i n) refl (below f n (and_right (f n) (all_below f n) h) i)
  where
    go : (t : Bool) → eqb i n ≡ t → (i < n → f i ≡ true) → f i ≡ true
    go true e ih = rw (eqb-true i n e) (and_left (f n) (all_below f n) h)
    go false e ih = let d : i ≡ n → ⊥ = eqb-false i n e in ih (omega arith)

-- two functions that compute to the same number at every number below n
pub same_below : (f g : ℕ → ℕ) (n : ℕ) → all_below (λ (i : ℕ). eqb (f i) (g i)) n ≡ true → (i : ℕ) → i < n → f i ≡ g i
same_below f g n h i k = eqb-true (f i) (g i) (below (λ (j : ℕ). eqb (f j) (g j)) n h i k)

-- lists that are the same, by the test
pub list_eq : (x : List ℕ) → eq_list x x ≡ true
unfolding eq_all
list_eq [] = refl
list_eq (a ∷ x) = simp (eq-eqb a a refl, list_eq x)

pub eq_list_lem : (x y : List ℕ) → eq_list x y ≡ true → x ≡ y
unfolding eq_all
eq_list_lem [] [] h = refl
eq_list_lem [] (b ∷ y) h = absurd (false≢true h)
eq_list_lem (a ∷ x) [] h = absurd (false≢true h)
eq_list_lem (a ∷ x) (b ∷ y) h = go (eqb a b) refl h (eq_list_lem x y)
  where
    go : (t : Bool) → eqb a b ≡ t → (t && eq_list x y) ≡ true → (eq_list x y ≡ true → x ≡ y) → a ∷ x ≡ b ∷ y
    go true e h ih = let p = eqb-true a b e in let q = ih h in cc
    go false e h ih = absurd (false≢true h)

pub eq_length : (x y : List ℕ) → (length x ≡ length y → ⊥) → eq_list x y ≡ false
unfolding eq_all
eq_length [] [] h = absurd (h refl)
eq_length [] (b ∷ y) h = refl
eq_length (a ∷ x) [] h = refl
eq_length (a ∷ x) (b ∷ y) h = simp (eq_length x y (λ e. h (omega arith)), and-false)

-- a list that begins with another
pub starts_self : (x s : List ℕ) → starts x (x ++ s) ≡ true
unfolding starts
starts_self [] s = refl
starts_self (b ∷ x) s = simp (eq-eqb b b refl, starts_self x s)

pub starts-split : (w s : List ℕ) → starts w s ≡ true → s ≡ w ++ drop (length w) s
unfolding starts
starts-split [] s h = refl
starts-split (x ∷ w) [] h = absurd (false≢true h)
starts-split (x ∷ w) (b ∷ s) h = go (eqb b x) refl h (starts-split w s)
  where
    go : (t : Bool) → eqb b x ≡ t → (t && starts w s) ≡ true → (starts w s ≡ true → s ≡ w ++ drop (length w) s) → b ∷ s ≡ x ∷ (w ++ drop (length w) s)
    go true e h ih = let p = eqb-true b x e in let q = ih h in cc
    go false e h ih = absurd (false≢true h)

pub starts_most : (w s : List ℕ) → starts w s ≡ true → length w ≤ length s
starts_most w s h = omega (arith, ap length (starts-split w s h) ∙ length-append w (drop (length w) s))

-- what holds of every element of two lists holds of every element of both
pub all_append : {A : Type 0} (P : A → Type 0) (x y : List A) → All P x → All P y → All P (x ++ y)
all_append P [] y h k = k
all_append P (a ∷ x) y h k = (h.0, all_append P x y h.1 k)

pub every : {A : Type 0} (P : A → Type 0) → ((a : A) → P a) → (x : List A) → All P x
every P h [] = tt
every P h (a ∷ x) = (h a, every P h x)

-- what holds of each element holds of the one at a place
pub all-at : {A : Type 0} (P : A → Type 0) (x : List A) (i : ℕ) (d : A) → All P x → i < length x → P (get_or x i d)
all-at P [] i d h l = absurd (not-suc-le-zero l)
all-at P (a ∷ x) zero d h l = h.0
all-at P (a ∷ x) (suc i) d h l = all-at P x i d h.1 (le_of_suc-le-suc l)

-- tests that agree on each element
pub any_alike : {A : Type 0} (f g : A → Bool) (x : List A) → All (λ (a : A). f a ≡ g a) x → any f x ≡ any g x
unfolding any
any_alike f g [] h = refl
any_alike f g (a ∷ x) h = simp (h.0, any_alike f g x h.1)

pub keep_alike : {A : Type 0} (f g : A → Bool) (x : List A) → All (λ (a : A). f a ≡ g a) x → keep f x ≡ keep g x
unfolding keep
keep_alike f g [] h = refl
keep_alike f g (a ∷ x) h = simp (h.0, keep_alike f g x h.1)

pub all_map : {A B : Type 0} (P : A → Type 0) (Q : B → Type 0) (g : A → B) → ((a : A) → P a → Q (g a)) → (x : List A) → All P x → All Q (map g x)
all_map P Q g k [] h = tt
all_map P Q g k (a ∷ x) h = (k a h.0, all_map P Q g k x h.1)

-- of the elements that are kept the test holds
pub all_keep : {A : Type 0} (P Q : A → Type 0) (f : A → Bool) → ((a : A) → P a → f a ≡ true → Q a) → (x : List A) → All P x → All Q (keep f x)
unfolding keep
all_keep P Q f k [] h = tt
all_keep P Q f k (a ∷ x) h = picked (All Q) (f a) (λ e. (k a h.0 e, all_keep P Q f k x h.1)) (λ _. all_keep P Q f k x h.1)

pub all-kept : {A : Type 0} (P : A → Type 0) (f : A → Bool) → ((a : A) → f a ≡ true → P a) → (x : List A) → All P (keep f x)
all-kept P f k x = all_keep (λ _. Unit) P f (λ a _ e. k a e) x (every (λ _. Unit) (λ _. tt) x)

-- one element at a time
pub keep_cons : {A : Type 0} (f : A → Bool) (a : A) (x : List A) → keep f (a ∷ x) ≡ pick (f a) (a ∷ []) [] ++ keep f x
unfolding keep
keep_cons f a x = go (f a)
  where
    go : (t : Bool) → pick t (a ∷ keep f x) (keep f x) ≡ pick t (a ∷ []) [] ++ keep f x
    go true = refl
    go false = refl

-- how many they are
pub keep_most : {A : Type 0} (f : A → Bool) (x : List A) → length (keep f x) ≤ length x
unfolding keep
keep_most f [] = omega arith
keep_most f (a ∷ x) = go (f a) (keep_most f x)
  where
    go : (t : Bool) → length (keep f x) ≤ length x → length (pick t (a ∷ keep f x) (keep f x)) ≤ suc (length x)
    go true h = omega arith
    go false h = omega arith

pub count_cons : {A : Type 0} (f : A → Bool) (a : A) (x : List A) → count_if f (a ∷ x) ≡ pick (f a) (count_if f x + 1) (count_if f x)
unfolding keep
count_cons f a x = go (f a)
  where
    go : (t : Bool) → length (pick t (a ∷ keep f x) (keep f x)) ≡ pick t (count_if f x + 1) (count_if f x)
    go true = omega arith
    go false = refl
