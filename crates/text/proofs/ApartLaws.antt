-- Laws of texts compared: what they have in common, byte by byte and by sixteens; what the next place where they differ says of a span; and how an index of
-- such places is made. (01: equality; names)
-- Assumes nothing.
use Prim.Native.Nat.{ℕ, zero, suc, ◌+◌, ◌*◌, ◌-◌, ◌/◌, ◌≤◌, ◌<◌, min}
use native.Mathlib.Nat.{not-suc-le-zero, le_of_suc-le-suc}
use native.Mathlib.Numerals.{add-one}
use native.Mathlib.Omega.{arith}
use mathlib.Core.Path.{◌≡◌, refl, ap, sym, ◌∙◌}
use mathlib.Core.Bool.{Bool, true, false, ◌&&◌, ◌||◌}
use mathlib.Core.List.{List, [], ◌∷◌}
use lib.ListN.{length, get_or, take, drop, drop_of_length-le, length-drop}
use lib.Seq.{drop-cons, drop-drop, take-length}
use lib.Dec.{T, eqb, leb, ltb, ltb→lt}
use borrow.Author.Tests.{eq-eqb, ne_eqb, le-leb, lt-leb, leb-true, leb-false, ltb-false}
use Rattle.lin_spec.specs.Base.{pick, eq_list, eq_all}
use Rattle.lin_spec.specs.Records.{limit, part}
use Rattle.lin_spec.proofs.Base.{split, and_left, and_right, or_none, eq_length}
use Rattle.text.specs.Index.{Filled}
use Rattle.text.specs.Apart.{common, next_apart, Apart, Sixteen}

-- What two texts have in common

pub common-left : (s t : List ℕ) → common s t ≤ length s
unfolding common
common-left [] t = omega arith
common-left (x ∷ s) [] = omega arith
common-left (x ∷ s) (y ∷ t) = go (eqb x y) (common-left s t)
  where
    go : (b : Bool) → common s t ≤ length s → pick b (suc (common s t)) 0 ≤ suc (length s)
    go true h = omega arith
    go false h = omega arith

pub common_right : (s t : List ℕ) → common s t ≤ length t
unfolding common
common_right [] t = omega arith
common_right (x ∷ s) [] = omega arith
common_right (x ∷ s) (y ∷ t) = go (eqb x y) (common_right s t)
  where
    go : (b : Bool) → common s t ≤ length t → pick b (suc (common s t)) 0 ≤ suc (length t)
    go true h = omega arith
    go false h = omega arith

leb-suc : (n m : ℕ) → leb n m ≡ leb (suc n) (suc m)
leb-suc n m = split m n (λ h. lt-leb n m h ∙ sym (lt-leb (suc n) (suc m) (omega arith))) (λ h. le-leb n m h ∙ sym (le-leb (suc n) (suc m) (omega arith)))

-- the first n bytes are the same exactly when n is no more than that
front : (n : ℕ) (s t : List ℕ) → n ≤ length s → n ≤ length t → eq_list (take n s) (take n t) ≡ leb n (common s t)
unfolding common eq_all
front zero s t h k = sym (le-leb 0 (common s t) (omega arith))
front (suc n) [] t h k = absurd (not-suc-le-zero h)
front (suc n) (x ∷ s) [] h k = absurd (not-suc-le-zero k)
front (suc n) (x ∷ s) (y ∷ t) h k = go (eqb x y) (front n s t (le_of_suc-le-suc h) (le_of_suc-le-suc k))
  where
    go : (b : Bool) → eq_list (take n s) (take n t) ≡ leb n (common s t) → (b && eq_list (take n s) (take n t)) ≡ leb (suc n) (pick b (suc (common s t)) 0)
    go true e = e ∙ leb-suc n (common s t)
    go false e = sym (lt-leb (suc n) 0 (omega arith))

-- after some of it the rest is left
common-after : (i : ℕ) (s t : List ℕ) → i ≤ common s t → common s t ≡ i + common (drop i s) (drop i t)
unfolding common
common-after zero s t h = omega arith
common-after (suc i) [] t h = absurd (not-suc-le-zero h)
common-after (suc i) (x ∷ s) [] h = absurd (not-suc-le-zero h)
common-after (suc i) (x ∷ s) (y ∷ t) h = go (eqb x y) h (common-after i s t)
  where
    go : (b : Bool) → suc i ≤ pick b (suc (common s t)) 0 → (i ≤ common s t → common s t ≡ i + common (drop i s) (drop i t))
        → pick b (suc (common s t)) 0 ≡ suc i + common (drop i s) (drop i t)
    go true l ih = let e = ih (le_of_suc-le-suc l) in omega arith
    go false l ih = absurd (not-suc-le-zero l)

-- The next place where they differ

module _ (s t : List ℕ) where
  -- all places up to it have the same next one
  pub within : (x a : ℕ) → x ≤ a → a ≤ next_apart s t x → next_apart s t a ≡ next_apart s t x
  within x a h k =
      let i : x + (a - x) ≡ a = omega arith in
      let e = common-after (a - x) (drop x s) (drop x t) (omega arith) in
      let d : common (drop (a - x) (drop x s)) (drop (a - x) (drop x t)) ≡ common (drop a s) (drop a t) = rw (drop-drop (a - x) x s, drop-drop (a - x) x t, i) refl in
      omega (arith, e, d)

  -- it is within a text that x is within
  pub apart_within : (x : ℕ) → x ≤ length s → next_apart s t x ≤ length s
  apart_within x h = let w = rw length-drop at (common-left (drop x s) (drop x t)) in omega arith

  -- where one has ended it is here
  pub over-left : (i : ℕ) → length s ≤ i → next_apart s t i ≡ i
  unfolding common
  over-left i h = rw (drop_of_length-le s h) (omega arith)

  over_right : (i : ℕ) → length t ≤ i → next_apart s t i ≡ i
  over_right i h = let w = rw length-drop at (common_right (drop i s) (drop i t)) in omega arith

  pub over : (m i : ℕ) → m ≡ min (length s) (length t) → m ≤ i → i ≡ next_apart s t i
  over m i e h = split (length s) (length t) (λ l. sym (over-left i (omega (arith, e)))) (λ l. sym (over_right i (omega (arith, e))))

  module _ (i : ℕ) (h : i < length s) (k : i < length t) where
    apart_cons : next_apart s t i ≡ i + pick (eqb (get_or s i 0) (get_or t i 0)) (suc (common (drop (suc i) s) (drop (suc i) t))) 0
    unfolding common
    apart_cons = rw (drop-cons s i 0 h, drop-cons t i 0 k) refl

    -- two bytes that differ, and two that are the same
    pub differ : (get_or s i 0 ≡ get_or t i 0 → ⊥) → i ≡ next_apart s t i
    differ d = sym (apart_cons ∙ rw (ne_eqb (get_or s i 0) (get_or t i 0) d) (omega arith))

    same_here : eqb (get_or s i 0) (get_or t i 0) ≡ true → next_apart s t (i + 1) ≡ next_apart s t i
    same_here e = sym (apart_cons ∙ rw (add-one, e) (omega arith))

    pub same : get_or s i 0 ≡ get_or t i 0 → next_apart s t (i + 1) ≡ next_apart s t i
    same d = same_here (eq-eqb (get_or s i 0) (get_or t i 0) d)

-- Bytes, by sixteens

abbrev like : (a b : List ℕ) (i : ℕ) → Bool
like a b i = eqb (get_or a i 0) (get_or b i 0)

module _ (a b : List ℕ) (m : ℕ) (la : m ≤ length a) (lb : m ≤ length b) where
  pub sixteen_same_lem : (i : ℕ) → i + 16 ≤ m → (like a b i && like a b (i + 1) && like a b (i + 2) && like a b (i + 3) && like a b (i + 4) && like a b (i + 5) && like a b (i + 6) && like a b (i + 7) && like a b (i + 8) && like a b (i + 9) && like a b (i + 10) && like a b (i + 11) && like a b (i + 12) && like a b (i + 13) && like a b (i + 14) && like a b (i + 15)) ≡ true → Sixteen a b i
  sixteen_same_lem i h e = record { within = omega arith; after = to 15 tt (to 14 tt (to 13 tt (to 12 tt (to 11 tt (to 10 tt (to 9 tt (to 8 tt (to 7 tt (to 6 tt (to 5 tt (to 4 tt (to 3 tt (to 2 tt (to 1 tt one)))))))))))))) e }
    where
      one : like a b i ≡ true → next_apart a b (i + 1) ≡ next_apart a b i
      one f = same_here a b i (omega arith) (omega arith) f

      to : (k : ℕ) → T (ltb k 16) → {t : Bool} → (t ≡ true → next_apart a b (i + k) ≡ next_apart a b i) → (t && like a b (i + k)) ≡ true
          → next_apart a b (i + suc k) ≡ next_apart a b i
      to k m {t} f e =
          let d : i + suc k ≡ i + k + 1 = omega arith in
          let n = ltb→lt k 16 m in
          rw d (same_here a b (i + k) (omega arith) (omega arith) (and_right t (like a b (i + k)) e) ∙ f (and_left t (like a b (i + k)) e))

-- Two texts as a whole

module _ (a b : List ℕ) where
  pub whole_length : (length a ≡ length b → ⊥) → false ≡ eq_list a b
  whole_length h = sym (eq_length a b h)

  pub whole_same : length a ≡ length b → (p : ℕ) → p ≡ next_apart a b 0 → eqb p (length a) ≡ eq_list a b
  whole_same l p e =
      let f = front (length a) a b (omega arith) (omega arith) in
      let w = common-left a b in
      let g : eqb p (length a) ≡ leb (length a) (common a b) = split (common a b) (length a)
      (λ h. ne_eqb p (length a) (λ d. omega (arith, e)) ∙ sym (lt-leb (length a) (common a b) h))
      (λ h. eq-eqb p (length a) (omega (arith, e)) ∙ sym (le-leb (length a) (common a b) h)) in
      g ∙ sym f ∙ rw (take-length a, (let d : take (length a) b ≡ b = rw l (take-length b) in d)) refl

-- A span at one place in both

module _ (s t : List ℕ) (a n : ℕ) where
  -- it ends at or before the next place where they differ
  pub span_same : a + n ≤ next_apart s t a → true ≡ eq_list (part s a n) (part t a n)
  unfolding part
  span_same h =
      let ls = rw length-drop at (common-left (drop a s) (drop a t)) in
      let lt = rw length-drop at (common_right (drop a s) (drop a t)) in
      sym (front n (drop a s) (drop a t) (rw length-drop (omega arith)) (rw length-drop (omega arith)) ∙ le-leb n (common (drop a s) (drop a t)) (omega arith))

  -- so do all spans among the first bytes that they have in common
  pub near_same : a + n ≤ common s t → true ≡ eq_list (part s a n) (part t a n)
  near_same h = let w = within s t 0 a (omega arith) (omega arith) in span_same (omega arith)

  -- it ends after that place, within both
  pub span_apart : next_apart s t a < a + n → a + n ≤ length s → a + n ≤ length t → false ≡ eq_list (part s a n) (part t a n)
  unfolding part
  span_apart h ls lt = sym (front n (drop a s) (drop a t) (rw length-drop (omega arith)) (rw length-drop (omega arith)) ∙ lt-leb n (common (drop a s) (drop a t)) (omega arith))

  pub span-by : (p : ℕ) → p ≡ next_apart s t a → a + n ≤ length s → a + n ≤ length t → leb (a + n) p ≡ eq_list (part s a n) (part t a n)
  span-by p e ls lt =
      split p (a + n)
      (λ h. lt-leb (a + n) p h ∙ span_apart (omega (arith, e)) ls lt)
      (λ h. le-leb (a + n) p h ∙ span_same (omega (arith, e)))

  -- what the comparison of its first bytes says
  pub span-front : (m : ℕ) → m ≤ n → a + n ≤ length s → a + n ≤ length t → eq_list (part s a m) (part t a m) ≡ leb (a + m) (next_apart s t a)
  unfolding part
  span-front m h ls lt =
      front m (drop a s) (drop a t) (rw length-drop (omega arith)) (rw length-drop (omega arith))
      ∙ split (common (drop a s) (drop a t)) m
      (λ k. lt-leb m (common (drop a s) (drop a t)) k ∙ sym (lt-leb (a + m) (next_apart s t a) (omega arith)))
      (λ k. le-leb m (common (drop a s) (drop a t)) k ∙ sym (le-leb (a + m) (next_apart s t a) (omega arith)))

-- a span from a up to b, within both
module _ (s t : List ℕ) (a b : ℕ) (l : a ≤ b) (ls : b ≤ length s) (lt : b ≤ length t) where
  ends : a + (b - a) ≡ b
  ends = omega arith

  -- by the next place where they differ
  pub by_place : (p : ℕ) → p ≡ next_apart s t a → leb b p ≡ eq_list (part s a (b - a)) (part t a (b - a))
  by_place p e = ap (λ (n : ℕ). leb n p) (sym ends) ∙ span-by s t a (b - a) p e (omega arith) (omega arith)

  -- by its first m bytes, where they differ; where they are the same, the next place is not among them
  module _ (m : ℕ) (h : m ≤ b - a) (r : Bool) (e : r ≡ eq_list (part s a m) (part t a m)) where
    told : r ≡ leb (a + m) (next_apart s t a)
    told = e ∙ span-front s t a (b - a) m h (omega arith) (omega arith)

    pub block_differs : r ≡ false → false ≡ eq_list (part s a (b - a)) (part t a (b - a))
    block_differs n = span_apart s t a (b - a) (let k = leb-false (a + m) (next_apart s t a) (sym told ∙ n) in omega arith) (omega arith) (omega arith)

    pub block_same : r ≡ true → a + m ≤ next_apart s t a
    block_same n = leb-true (a + m) (next_apart s t a) (sym told ∙ n)

-- what the code's tests leave: a span that is long, ends within both texts, and has a word for the block after its first
pub looked_up : (a b m n k : ℕ) → ((leb (b - a) 1024 || (ltb m b || ltb n b)) || leb k (a / 1024 + 1)) ≡ false → (1024 < b - a) × (b ≤ m) × (b ≤ n) × (a / 1024 + 1 < k)
looked_up a b m n k e =
    let p = or_none (leb (b - a) 1024 || (ltb m b || ltb n b)) (leb k (a / 1024 + 1)) e in
    let q = or_none (leb (b - a) 1024) (ltb m b || ltb n b) p.0 in
    let r = or_none (ltb m b) (ltb n b) q.1 in
    (leb-false (b - a) 1024 q.0, ltb-false m b r.0, ltb-false n b r.1, leb-false k (a / 1024 + 1) p.1)

-- An index

-- no word at all
pub apart_none : (s t : List ℕ) → Apart s t []
apart_none s t k h = absurd (not-suc-le-zero h)

module _ (s t next : List ℕ) (x : Apart s t next) where
  -- the word of the block that a is in, where it is not before a
  pub word-here : (a : ℕ) → a / 1024 < length next → a ≤ get_or next (a / 1024) 0 → get_or next (a / 1024) 0 ≡ next_apart s t a
  word-here a h l =
      let e = x (a / 1024) h in
      e ∙ sym (within s t (a / 1024 * 1024) a (omega arith) (omega arith))

  -- the word of the next block, where they are the same up to it
  pub word_next : (a : ℕ) → a / 1024 + 1 < length next → (m : ℕ) → m ≡ (a / 1024 + 1) * 1024 - a → a + m ≤ next_apart s t a → get_or next (a / 1024 + 1) 0 ≡ next_apart s t a
  word_next a h m e l = x (a / 1024 + 1) h ∙ within s t a ((a / 1024 + 1) * 1024) (omega arith) (omega arith)

-- How an index is made: the blocks before k have their words

abbrev pub Made : (s t next : List ℕ) (k : ℕ) → Type 0
Made s t next k = (j : ℕ) → j < k → get_or next j 0 ≡ next_apart s t (j * 1024)

pub made_none : (s t next : List ℕ) → Made s t next 0
made_none s t next j h = absurd (not-suc-le-zero h)

module _ (s t : List ℕ) (k : ℕ) where
  pub made-limit : k < 1025 → length s ≤ limit → (p : ℕ) → p ≡ next_apart s t (k * 1024) → p ≤ limit
  made-limit h l p e =
      split (length s) (k * 1024)
      (λ i. let z = over-left s t (k * 1024) (omega arith) in omega (arith, e))
      (λ i. let z = apart_within s t (k * 1024) i in omega (arith, e))

  pub made-next : (old new : List ℕ) (p m : ℕ) → Made s t old k → p ≡ next_apart s t (k * 1024) → Filled old k p new m → Made s t new m
  made-next old new p m d e f j h =
      split j k
      (λ i. f.kept j i ∙ d j i)
      (λ i. f.stored j i h ∙ e ∙ sym (within s t (k * 1024) (j * 1024) (omega arith) (let b = f.begun j i h in omega (arith, e))))
