-- Laws of a cursor's steps: the first pipe, which step it is by the next two pipes, and what a step says of the tokens. (01: Tokens)
-- Assumes nothing.
use Prim.Native.Nat.{ℕ, zero, suc, ◌+◌, ◌-◌, ◌≤◌, ◌<◌, zero-le, suc-le-suc}
use native.Mathlib.Nat.{not-suc-le-zero, le_of_suc-le-suc, sub-zero, suc-sub-suc}
use native.Mathlib.Numerals.{add-one}
use native.Mathlib.Omega.{arith}
use mathlib.Core.Path.{◌≡◌, refl, ap, sym, subst, ◌∙◌}
use mathlib.Core.Bool.{Bool, true, false}
use mathlib.Core.List.{List, [], ◌∷◌, ◌++◌}
use lib.ListN.{length, get_or, take, drop, length-append, length-drop}
use lib.Seq.{take-append_seam, drop-append-add, drop-drop}
use lib.Dec.{eqb}
use borrow.Author.Tests.{eq-eqb, ne_eqb, eqb-true}
use Rattle.lin_spec.specs.Base.{pick}
use Rattle.lin_spec.specs.Records.{part}
use Rattle.lin_spec.specs.Tokens.{Pieces, cut, paired, left, tokens, trailing, write, pipe}
use Rattle.lin_spec.specs.Tokens.Pieces.{end, piece}
use Rattle.lin_spec.specs.Tokens.TokenOf.{token}
use Rattle.lin_spec.specs.Cursor.{Place, place, Step, step_by, step_at, find_from}
use Rattle.lin_spec.specs.Cursor.Step.{found, ended}
use Rattle.lin_spec.proofs.Records.{part_length}
use Rattle.lin_spec.proofs.Tokens.{joined, Whole, joined-cut, whole-cut, cut-joined, written_back}

-- The first byte c

pub find-end : (c : ℕ) (s : List ℕ) (i : ℕ) → length s ≤ i → find_from c s i ≡ length s
unfolding find_from
find-end c [] i h = refl
find-end c (b ∷ s) zero h = absurd (not-suc-le-zero h)
find-end c (b ∷ s) (suc i) h = ap suc (find-end c s i (le_of_suc-le-suc h))

pub find-here : (c : ℕ) (s : List ℕ) (i : ℕ) → i < length s → get_or s i 0 ≡ c → find_from c s i ≡ i
unfolding find_from
find-here c [] i h e = absurd (not-suc-le-zero h)
find-here c (b ∷ s) zero h e = simp (eq-eqb b c e)
find-here c (b ∷ s) (suc i) h e = ap suc (find-here c s i (le_of_suc-le-suc h) e)

find-suc : (c : ℕ) (s : List ℕ) (i : ℕ) → i < length s → (get_or s i 0 ≡ c → ⊥) → find_from c s (suc i) ≡ find_from c s i
unfolding find_from
find-suc c [] i h e = absurd (not-suc-le-zero h)
find-suc c (b ∷ s) zero h e = simp (ne_eqb b c e)
find-suc c (b ∷ s) (suc i) h e = ap suc (find-suc c s i (le_of_suc-le-suc h) e)

pub find-next : (c : ℕ) (s : List ℕ) (i : ℕ) → i < length s → (get_or s i 0 ≡ c → ⊥) → find_from c s (i + 1) ≡ find_from c s i
find-next c s i h e = rw add-one (find-suc c s i h e)

-- It is within the text; at or after the place from which it is looked for; a c; and no c stands between: the first is the first.
pub find-within : (c : ℕ) (s : List ℕ) (i : ℕ) → find_from c s i ≤ length s
unfolding find_from
find-within c [] i = zero-le
find-within c (b ∷ s) zero = go (eqb b c) (find-within c s zero)
  where
    go : (t : Bool) → find_from c s 0 ≤ length s → pick t 0 (suc (find_from c s 0)) ≤ suc (length s)
    go true h = zero-le
    go false h = suc-le-suc h
find-within c (b ∷ s) (suc i) = suc-le-suc (find-within c s i)

pub find_most : (c : ℕ) (s : List ℕ) (i e : ℕ) → e ≡ find_from c s i → e ≤ length s
find_most c s i e h = rw h (find-within c s i)

pub find-after : (c : ℕ) (s : List ℕ) (i : ℕ) → find_from c s i < length s → i ≤ find_from c s i
unfolding find_from
find-after c [] i h = absurd (not-suc-le-zero h)
find-after c (b ∷ s) zero h = zero-le
find-after c (b ∷ s) (suc i) h = suc-le-suc (find-after c s i (le_of_suc-le-suc h))

pub find-is : (c : ℕ) (s : List ℕ) (i : ℕ) → find_from c s i < length s → get_or s (find_from c s i) 0 ≡ c
unfolding find_from
find-is c [] i h = absurd (not-suc-le-zero h)
find-is c (b ∷ s) zero h = go (eqb b c) refl (find-is c s zero)
  where
    go : (t : Bool) → eqb b c ≡ t → (find_from c s 0 < length s → get_or s (find_from c s 0) 0 ≡ c)
        → get_or (b ∷ s) (find_from c (b ∷ s) 0) 0 ≡ c
    go true e ih = simp e (eqb-true b c e)
    go false e ih = simp e (ih (le_of_suc-le-suc (simp e at h)))
find-is c (b ∷ s) (suc i) h = find-is c s i (le_of_suc-le-suc h)

pub find_first : (c : ℕ) (s : List ℕ) (i k : ℕ) → i ≤ k → k < find_from c s i → get_or s k 0 ≡ c → ⊥
unfolding find_from
find_first c [] i k ik h e = absurd (not-suc-le-zero h)
find_first c (b ∷ s) zero zero ik h e = absurd (not-suc-le-zero (simp (eq-eqb b c e) at h))
find_first c (b ∷ s) zero (suc k) ik h e = go (eqb b c) refl (find_first c s zero k zero-le)
  where
    go : (t : Bool) → eqb b c ≡ t → (k < find_from c s 0 → get_or s k 0 ≡ c → ⊥) → ⊥
    go true f ih = absurd (not-suc-le-zero (simp f at h))
    go false f ih = ih (le_of_suc-le-suc (simp f at h)) e
find_first c (b ∷ s) (suc i) zero ik h e = absurd (not-suc-le-zero ik)
find_first c (b ∷ s) (suc i) (suc k) ik h e = find_first c s i k (le_of_suc-le-suc ik) (le_of_suc-le-suc h) e

-- The rest of a text is cut at the first c, if it has one

cut-suc : (c : ℕ) (s : List ℕ) (i : ℕ) → find_from c s i < length s
    → cut c (drop i s) ≡ piece (part s i (find_from c s i - i)) (cut c (drop (suc (find_from c s i)) s))
unfolding find_from cut part
cut-suc c [] i h = absurd (not-suc-le-zero h)
cut-suc c (b ∷ s) zero h = go (eqb b c) refl (cut-suc c s zero)
  where
    go : (t : Bool) → eqb b c ≡ t
        → (find_from c s 0 < length s → cut c s ≡ piece (take (find_from c s 0 - 0) s) (cut c (drop (suc (find_from c s 0)) s)))
        → cut c (b ∷ s) ≡ piece (take (find_from c (b ∷ s) 0 - 0) (b ∷ s)) (cut c (drop (suc (find_from c (b ∷ s) 0)) (b ∷ s)))
    go true e ih = simp e
    go false e ih = simp (e, sub-zero, ih (le_of_suc-le-suc (simp e at h)))
cut-suc c (b ∷ s) (suc i) h = simp (suc-sub-suc, cut-suc c s i (le_of_suc-le-suc h))

pub cut_at : (c : ℕ) (s : List ℕ) (i : ℕ) → find_from c s i < length s
    → cut c (drop i s) ≡ piece (part s i (find_from c s i - i)) (cut c (drop (find_from c s i + 1) s))
cut_at c s i h = rw add-one (cut-suc c s i h)

pub cut-end : (c : ℕ) (s : List ℕ) (i : ℕ) → length s ≤ find_from c s i → cut c (drop i s) ≡ end (drop i s)
unfolding find_from cut
cut-end c [] zero h = refl
cut-end c [] (suc i) h = refl
cut-end c (b ∷ s) zero h = go (eqb b c) refl (cut-end c s zero)
  where
    go : (t : Bool) → eqb b c ≡ t → (length s ≤ find_from c s 0 → cut c s ≡ end s) → cut c (b ∷ s) ≡ end (b ∷ s)
    go true e ih = absurd (not-suc-le-zero (simp e at h))
    go false e ih = simp (e, ih (le_of_suc-le-suc (simp e at h)))
cut-end c (b ∷ s) (suc i) h = cut-end c s i (le_of_suc-le-suc h)

-- Which step it is, by the next two pipes

module _ (s : List ℕ) (at p : ℕ) (ep : p ≡ find_from pipe s at) where
  pub step_none : length s ≤ p → step_at s at ≡ ended at
  unfolding step_at step_by
  step_none h = simp (cut-end pipe s at (rw ep at h))

  pub step_after : p < length s → at ≤ p
  step_after h = rw ep (find-after pipe s at (rw ep at h))

  cut-first : p < length s → cut pipe (drop at s) ≡ piece (part s at (p - at)) (cut pipe (drop (p + 1) s))
  cut-first h = rw ep (cut_at pipe s at (rw ep at h))

  pub step_one : p < length s → (q : ℕ) → q ≡ find_from pipe s (p + 1) → length s ≤ q → step_at s at ≡ ended at
  unfolding step_at step_by
  step_one h q eq k = simp (cut-first h, cut-end pipe s (p + 1) (rw eq at k))

  pub step_two : p < length s → (q : ℕ) → q ≡ find_from pipe s (p + 1) → q < length s
      → step_at s at ≡ found (place at (p - at)) (place (p + 1) (q - (p + 1))) (q + 1)
  unfolding step_at step_by
  step_two h q eq k =
      let a : at ≤ p = step_after h in
      let b : p + 1 ≤ q = rw eq (find-after pipe s (p + 1) (rw eq at k)) in
      let l : length (part s at (p - at)) ≡ p - at = part_length s at (p - at) (omega arith) in
      let m : length (part s (p + 1) (q - (p + 1))) ≡ q - (p + 1) = part_length s (p + 1) (q - (p + 1)) (omega arith) in
      let v : at + (p - at + 1) ≡ p + 1 = omega arith in
      let n : p + 1 + (q - (p + 1) + 1) ≡ q + 1 = omega arith in
      let e : cut pipe (drop (p + 1) s) ≡ piece (part s (p + 1) (q - (p + 1))) (cut pipe (drop (q + 1) s)) = rw eq (cut_at pipe s (p + 1) (rw eq at k)) in
      simp (cut-first h, e, l, m, v, n)

-- What a step says of the tokens

-- the token at `at` has its command and its value in these parts of the text, and the next is at n
pub record Took (s : List ℕ) (at : ℕ) (c v : Place) (n : ℕ) : Type 0 where
  pub start : c.start ≡ at
  pub split : v.start ≡ at + c.len + 1
  pub after : n ≡ v.start + v.len + 1
  pub within : n ≤ length s
  pub first : tokens (drop at s) ≡ token (part s c.start c.len) (part s v.start v.len) ∷ tokens (drop n s)
  pub rest : trailing (drop at s) ≡ trailing (drop n s)

-- there is no token at `at`, the cursor stays, and all from there on is trailing
pub record Ended (s : List ℕ) (at n : ℕ) : Type 0 where
  pub stays : n ≡ at
  pub none : tokens (drop at s) ≡ []
  pub rest : trailing (drop at s) ≡ drop at s

abbrev pub Means : (s : List ℕ) (at : ℕ) → Step → Type 0
Means s at (found c v n) = Took s at c v n
Means s at (ended n) = Ended s at n

-- text that gives no token is trailing, whole
no_tokens : (s : List ℕ) → tokens s ≡ [] → trailing s ≡ s
unfolding write
no_tokens s e = rw e at (written_back s)

-- what stands after a piece and the byte that ends it
pub after-piece : (c : ℕ) (s : List ℕ) (a : ℕ) (x t : List ℕ) → drop a s ≡ x ++ c ∷ t → drop (a + (length x + 1)) s ≡ t
after-piece c s a x t e = sym (drop-drop (length x + 1) a s) ∙ ap (drop (length x + 1)) e ∙ drop-append-add x (c ∷ t) 1

took : (s : List ℕ) (at : ℕ) (x y : List ℕ) (r : Pieces) → drop at s ≡ x ++ pipe ∷ (y ++ pipe ∷ joined pipe r)
    → cut pipe (drop at s) ≡ piece x (piece y r) → Whole pipe r
    → Took s at (place at (length x)) (place (at + (length x + 1)) (length y)) (at + (length x + 1) + (length y + 1))
unfolding tokens trailing paired left part
took s at x y r f e w =
    let d = after-piece pipe s at x _ f in
    let n = after-piece pipe s (at + (length x + 1)) y _ d in
    let p : part s at (length x) ≡ x = ap (take (length x)) f ∙ take-append_seam x _ in
    let q : part s (at + (length x + 1)) (length y) ≡ y = ap (take (length y)) d ∙ take-append_seam y _ in
    let l : length s - at ≡ length x + suc (length y + suc (length (joined pipe r))) = sym (length-drop at s) ∙ ap length f ∙ simp length-append in
    record {
      start = refl;
      split = omega arith;
      after = omega arith;
      within = omega arith;
      first = simp (e, n, cut-joined pipe r w, p, q);
      rest = simp (e, n, cut-joined pipe r w);
    }

pub meaning : (s : List ℕ) (at : ℕ) → Means s at (step_at s at)
unfolding step_at step_by tokens paired Whole joined
meaning s at = go (cut pipe (drop at s)) refl
  where
    stays : tokens (drop at s) ≡ [] → Ended s at at
    stays e = record { stays = refl; none = e; rest = no_tokens (drop at s) e }

    go : (p : Pieces) → cut pipe (drop at s) ≡ p → Means s at (step_by at p)
    go (end x) e = stays (simp e)
    go (piece x (end y)) e = stays (simp e)
    go (piece x (piece y r)) e =
        took s at x y r (sym (joined-cut pipe (drop at s)) ∙ ap (joined pipe) e) e (subst (Whole pipe) e (whole-cut pipe (drop at s))).1.1

-- the same of a step that was called for and taken apart
pub means : (s : List ℕ) (at : ℕ) (v : Step) → step_at s at ≡ v → Means s at v
means s at v e = subst (Means s at) e (meaning s at)
