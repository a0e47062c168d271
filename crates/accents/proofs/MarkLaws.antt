-- Laws of the code that compares two texts class by class. (02: N3) Assumes nothing.
use Prim.Native.Nat.{ℕ, suc, ◌+◌, ◌<◌, ◌≤◌}
use native.Mathlib.Numerals.{add-one}
use native.Mathlib.Omega.{arith}
use mathlib.Core.Path.{◌≡◌, refl, ap, sym, ◌∙◌}
use mathlib.Core.Bool.{Bool, true, false, ◌||◌}
use mathlib.Core.List.{List, [], ◌∷◌}
use lib.Dec.{eqb, leb}
use lib.ListN.{length, get_or, take, drop, drop_of_length-le}
use lib.Seq.{drop-cons, take-suc, take_all}
use borrow.Author.Tests.{eq-eqb, ne_eqb, le-leb, lt-leb}
use Rattle.lin_spec.specs.Base.{All, keep, eq_all, eq_list}
use Rattle.lin_spec.proofs.Base.{split, list_eq, eq_list_lem, eq_length, all_append}
use Rattle.accents.specs.Ordering.{class, order, in_class, of_class}
use Rattle.accents.specs.Marks.{NextIn, ranks}
use Rattle.accents.proofs.OrderingLaws.{order-length, same-classes, class_in, class_out}
use Rattle.accents.proofs.ClassLaws.{ranks-same}

-- the test of a character's class, as the code makes it
class_test : (k c n : ℕ) (t : Bool) → n ≡ class c → (eqb n 0 || eqb n k) ≡ t → in_class k c ≡ t
unfolding in_class
class_test k c n t e h = ap (λ (m : ℕ). eqb m 0 || eqb m k) (sym e) ∙ h

-- The next of a class

-- the marks of class k are those from `from` on
pub record Passed (k : ℕ) (s : List ℕ) (from i : ℕ) : Type 0 where
  on : from ≤ i
  same : of_class k (drop i s) ≡ of_class k (drop from s)

pub none_passed : (k : ℕ) (s : List ℕ) (from : ℕ) → Passed k s from from
none_passed k s from = record { on = omega arith; same = refl }

module _ (k : ℕ) (s : List ℕ) (from i : ℕ) (p : Passed k s from i) where
  pub next-end : length s ≤ i → NextIn k s from i
  next-end h = record { on = p.on; same = p.same; there = λ l. absurd (omega arith) }

  module _ (n : ℕ) (d : n ≡ class (get_or s i 0)) where
    pub next_here : (eqb n 0 || eqb n k) ≡ true → NextIn k s from i
    next_here h = record { on = p.on; same = p.same; there = λ _. class_test k (get_or s i 0) n true d h }

    -- a mark of another class is passed
    pub next-on : i < length s → (eqb n 0 || eqb n k) ≡ false → Passed k s from (i + 1)
    next-on l h = record {
      on = omega (arith, p.on);
      same = rw add-one (sym (ap (of_class k) (drop-cons s i 0 l) ∙ class_out k (get_or s i 0) (drop (suc i) s) (class_test k (get_or s i 0) n false d h)) ∙ p.same);
    }

-- Two texts, from i and from j on

split_at : (k : ℕ) (s : List ℕ) (i : ℕ) → i < length s → in_class k (get_or s i 0) ≡ true → of_class k (drop i s) ≡ get_or s i 0 ∷ of_class k (drop (i + 1) s)
split_at k s i l h = rw add-one (ap (of_class k) (drop-cons s i 0 l) ∙ class_in k (get_or s i 0) (drop (suc i) s) h)

ended : (k : ℕ) (s : List ℕ) (i : ℕ) → length s ≤ i → of_class k (drop i s) ≡ []
unfolding of_class keep
ended k s i h = rw (drop_of_length-le s h)

-- what the loop keeps: each stands at one of the class or at its end, and what is left is as much the same as the whole
pub record Along (k : ℕ) (x y : List ℕ) (i j : ℕ) : Type 0 where
  pub first : i < length x → in_class k (get_or x i 0) ≡ true
  pub second : j < length y → in_class k (get_or y j 0) ≡ true
  pub left : eq_list (of_class k (drop i x)) (of_class k (drop j y)) ≡ eq_list (of_class k x) (of_class k y)

module _ (k : ℕ) (x y : List ℕ) (i j : ℕ) (a : Along k x y i j) where
  -- the first has more, and the second is at its end
  pub along_short : i < length x → length y ≤ j → false ≡ eq_list (of_class k x) (of_class k y)
  unfolding eq_all
  along_short l h = rw (split_at k x i l (a.first l), ended k y j h) at a.left

  -- the first is at its end
  pub along_end : length x ≤ i → leb (length y) j ≡ eq_list (of_class k x) (of_class k y)
  unfolding eq_all
  along_end h =
      split j (length y)
      (λ l. lt-leb (length y) j l ∙ (rw (split_at k y j l (a.second l), ended k x i h) at a.left))
      (λ m. le-leb (length y) j m ∙ (rw (ended k x i h, ended k y j m) at a.left))

  module _ (l : i < length x) (m : j < length y) where
    both : eq_list (get_or x i 0 ∷ of_class k (drop (i + 1) x)) (get_or y j 0 ∷ of_class k (drop (j + 1) y)) ≡ eq_list (of_class k x) (of_class k y)
    both = rw (split_at k x i l (a.first l), split_at k y j m (a.second m)) at a.left

    pub along_differ : (get_or x i 0 ≡ get_or y j 0 → ⊥) → false ≡ eq_list (of_class k x) (of_class k y)
    unfolding eq_all
    along_differ d = simp (ne_eqb (get_or x i 0) (get_or y j 0) d) at both

    pub along_next : get_or x i 0 ≡ get_or y j 0 → (i' j' : ℕ) → NextIn k x (i + 1) i' → NextIn k y (j + 1) j' → Along k x y i' j'
    unfolding eq_all
    along_next e i' j' f g = record {
      first = f.there;
      second = g.there;
      left = rw (f.same, g.same) (simp (eq-eqb (get_or x i 0) (get_or y j 0) e) at both);
    }

-- texts that are the same have the same order
pub same_ordered : (x y : List ℕ) → x ≡ y → true ≡ eq_list (order x) (order y)
same_ordered x y e = sym (rw e (list_eq (order y)))

-- All classes

-- texts that differ in a class have different orders
pub class_differs : (k : ℕ) (x y : List ℕ) (t : Bool) → t ≡ eq_list (of_class k x) (of_class k y) → t ≡ false → false ≡ eq_list (order x) (order y)
class_differs k x y t e h = go (eq_list (order x) (order y)) refl
  where
    go : (u : Bool) → eq_list (order x) (order y) ≡ u → false ≡ u
    go true f = sym h ∙ e ∙ (rw (same-classes x y (eq_list_lem (order x) (order y) f) k) (list_eq (of_class k y)))
    go false f = refl

pub length_differs : (x y : List ℕ) → (length x ≡ length y → ⊥) → false ≡ eq_list (order x) (order y)
length_differs x y h = sym (eq_length (order x) (order y) (λ e. h (sym (order-length x) ∙ e ∙ order-length y)))

-- one class more is the same
all-next : (P : ℕ → Type 0) (r : List ℕ) (n : ℕ) → n < length r → All P (take n r) → P (get_or r n 0) → All P (take (n + 1) r)
all-next P r n l h k = rw (add-one, take-suc r n 0 l) (all_append P (take n r) (get_or r n 0 ∷ []) h (k, tt))

nine : length ranks ≡ 9
unfolding ranks
nine = refl

abbrev pub Same : (x y : List ℕ) (n : ℕ) → Type 0
Same x y n = All (λ (k : ℕ). of_class k x ≡ of_class k y) (take n ranks)

pub ranks-next : (x y : List ℕ) (n : ℕ) (t : Bool) → n < 9 → t ≡ eq_list (of_class (get_or ranks n 0) x) (of_class (get_or ranks n 0) y) → t ≡ true → Same x y n → Same x y (n + 1)
ranks-next x y n t l e h a =
    all-next (λ (k : ℕ). of_class k x ≡ of_class k y) ranks n (omega (arith, nine)) a
    (eq_list_lem (of_class (get_or ranks n 0) x) (of_class (get_or ranks n 0) y) (sym e ∙ h))

pub ranks-end : (x y : List ℕ) (n : ℕ) → 9 ≤ n → Same x y n → true ≡ eq_list (order x) (order y)
ranks-end x y n h a =
    let o : order x ≡ order y = ranks-same x y (rw (take_all n ranks (omega (arith, nine))) at a) in
    sym (rw o (list_eq (order y)))
