-- Laws of the next ill-formed place: where it is, what it says of a span, and how an index of such places is made, a run of whole characters at a time.
-- (01: Eight refusals, 6)
-- Assumes nothing.
use Prim.Native.Nat.{ℕ, zero, suc, ◌+◌, ◌*◌, ◌-◌, ◌/◌, ◌≤◌, ◌<◌}
use native.Mathlib.Nat.{not-suc-le-zero}
use native.Mathlib.Omega.{arith}
use mathlib.Core.Path.{◌≡◌, refl, ap, sym, ◌∙◌}
use mathlib.Core.Bool.{Bool, true, false, ◌&&◌, ◌||◌, not, and-false}
use mathlib.Core.List.{List, [], ◌∷◌}
use lib.ListN.{length, get_or, take, drop, length-drop}
use lib.Seq.{take-length, take-take, drop-drop, get_or-take, get_or-drop, length-take-le}
use lib.Dec.{eqb, leb, ltb}
use borrow.Author.Tests.{eq-eqb, ne_eqb, eqb-true, eqb-false, le-leb, lt-leb, leb-false, lt-ltb, le-ltb, ltb-false}
use Rattle.lin_spec.specs.Records.{part}
use Rattle.lin_spec.specs.Utf8.{utf8, longest}
use Rattle.lin_spec.proofs.Base.{split, or_none}
use Rattle.lin_spec.proofs.Utf8.{longest-within, longest-is, longest_most, longest-after}
use Rattle.text.specs.Utf8.{is_tail, tail_at, Past, PassesChars}
use Rattle.text.specs.Index.{ill_from, next_ill, ill_part, Indexed, Filled}
use Rattle.text.proofs.Utf8Laws.{rest}
use Rattle.text.proofs.TornLaws.{start_is, ill-start, empty_utf8, tail_beyond}

-- The longest well-formed start

-- a place in it, as the tests of the code look at it
abbrev pub cuts : (t : List ℕ) (i m : ℕ) → Bool
cuts t i m = not (eqb i m) && tail_at t i

-- a start that is no longer is UTF-8 where it does not end within a character
front : (t : List ℕ) (i : ℕ) → i ≤ longest t → utf8 (take i t) ≡ not (cuts t i (longest t))
front t i h =
    let l : length (take (longest t) t) ≡ longest t = length-take-le (longest t) t (longest-within t) in
    ap utf8 (sym (take-take i (longest t) t h)) ∙ start_is (take (longest t) t) (longest-is t) i (omega arith) (cuts t i (longest t)) same
  where
    same : tail_at (take (longest t) t) i ≡ cuts t i (longest t)
    same = split i (longest t) (λ k. rw (ne_eqb i (longest t) (λ e. omega arith), get_or-take (longest t) t i 0 k) refl)
        (λ k. let l = length-take-le (longest t) t (longest-within t) in sym (tail_beyond (take (longest t) t) i (omega arith)) ∙ rw (eq-eqb i (longest t) (omega arith)) refl)

-- from a place in it that is no tail, the text has the same end of whole characters
start-after : (s : List ℕ) (a : ℕ) → a ≤ longest s → tail_at s a ≡ false → longest s ≡ a + longest (drop a s)
start-after s a h e =
    let w = longest-within s in
    longest-after a s (omega arith) (front s a h ∙ (let z : not (cuts s a (longest s)) ≡ true = rw (e, and-false) refl in z))

-- The next ill-formed place

ill-here : (f : ℕ) (s : List ℕ) (x : ℕ) → x ≤ longest s → ill_from f s x ≡ longest s
unfolding ill_from
ill-here zero s x h = refl
ill-here (suc f) s x h = simp (le-leb x (longest s) h)

ill-after : (f : ℕ) (s : List ℕ) (x : ℕ) → longest s < x → ill_from (suc f) s x ≡ longest s + 1 + ill_from f (drop (longest s + 1) s) (x - (longest s + 1))
unfolding ill_from
ill-after f s x h = simp (lt-leb x (longest s) h)

-- more turns than are needed change nothing
enough : (f g : ℕ) (s : List ℕ) (x : ℕ) → x ≤ f → x ≤ g → ill_from f s x ≡ ill_from g s x
enough zero g s x h k = ill-here zero s x (omega arith) ∙ sym (ill-here g s x (omega arith))
enough (suc f) zero s x h k = ill-here (suc f) s x (omega arith) ∙ sym (ill-here zero s x (omega arith))
enough (suc f) (suc g) s x h k =
    split (longest s) x
    (λ l. ill-after f s x l ∙ ap (λ (n : ℕ). longest s + 1 + n) (enough f g (drop (longest s + 1) s) (x - (longest s + 1)) (omega arith) (omega arith)) ∙ sym (ill-after g s x l))
    (λ l. ill-here (suc f) s x l ∙ sym (ill-here (suc g) s x l))

-- from a place that is no tail whole characters go on up to it
at_from : (n : ℕ) (s : List ℕ) (a : ℕ) → a ≤ n → tail_at s a ≡ false → ill_from n s a ≡ a + longest (drop a s)
at_from zero s a h e = ill-here zero s a (omega arith) ∙ start-after s a (omega arith) e
at_from (suc n) s a h e =
    split (longest s) a
    (λ l.
    let m = longest s + 1 in
    let i : m + (a - m) ≡ a = omega arith in
    let t : tail_at (drop m s) (a - m) ≡ false = ap is_tail (get_or-drop m s (a - m) 0) ∙ ap (tail_at s) i ∙ e in
    let d : longest (drop (a - m) (drop m s)) ≡ longest (drop a s) = ap longest (drop-drop (a - m) m s) ∙ ap (λ (k : ℕ). longest (drop k s)) i in
    ill-after n s a l ∙ omega (arith, at_from n (drop m s) (a - m) (omega arith) t))
    (λ l. ill-here (suc n) s a l ∙ start-after s a l e)

pub next-at : (s : List ℕ) (a : ℕ) → tail_at s a ≡ false → next_ill s a ≡ a + longest (drop a s)
next-at s a e = at_from a s a (omega arith) e

-- all places up to it have the same next one
within-from : (n : ℕ) (s : List ℕ) (x a : ℕ) → a ≤ n → x ≤ a → a ≤ ill_from n s x → ill_from n s a ≡ ill_from n s x
within-from zero s x a h k l = ill-here zero s a (omega arith) ∙ sym (ill-here zero s x (omega arith))
within-from (suc n) s x a h k l =
    split (longest s) x
    (λ j.
    let m = longest s + 1 in
    let e = ill-after n s x j in
    ill-after n s a (omega arith) ∙ ap (λ (i : ℕ). m + i) (within-from n (drop m s) (x - m) (a - m) (omega arith) (omega arith) (omega arith)) ∙ sym e)
    (λ j. let e = ill-here (suc n) s x j in ill-here (suc n) s a (omega arith) ∙ sym e)

pub next-within : (s : List ℕ) (x a : ℕ) → x ≤ a → a ≤ next_ill s x → next_ill s a ≡ next_ill s x
next-within s x a h k =
    let e = enough a x s x h (omega arith) in
    within-from a s x a (omega arith) h (omega arith) ∙ e

-- after the first one, by what follows it
next-after : (s : List ℕ) (x : ℕ) → longest s < x → next_ill s x ≡ longest s + 1 + next_ill (drop (longest s + 1) s) (x - (longest s + 1))
next-after s x h =
    let m = longest s + 1 in
    enough x (suc (x - 1)) s x (omega arith) (omega arith) ∙ ill-after (x - 1) s x h ∙ ap (λ (i : ℕ). m + i) (enough (x - 1) (x - m) (drop m s) (x - m) (omega arith) (omega arith))

-- What it says of a span

shift : (a i m : ℕ) → eqb (a + i) (a + m) ≡ eqb i m
shift a i m = go (eqb i m) refl
  where
    go : (t : Bool) → eqb i m ≡ t → eqb (a + i) (a + m) ≡ t
    go true e = let d = eqb-true i m e in eq-eqb (a + i) (a + m) (omega arith)
    go false e = ne_eqb (a + i) (a + m) (λ k. eqb-false i m e (omega arith))

-- a span that starts at no tail and has a byte, by the place p where whole characters end from its start on
span-from : (s : List ℕ) (a n p : ℕ) → a + n ≤ length s → p ≡ a + longest (drop a s) → (ltb p (a + n) || cuts s (a + n) p) ≡ not (utf8 (part s a n))
unfolding part
span-from s a n p h e = split (longest (drop a s)) n beyond inside
  where
    t : List ℕ
    t = drop a s

    beyond : longest t < n → (ltb p (a + n) || cuts s (a + n) p) ≡ not (utf8 (take n t))
    beyond l = go (utf8 (take n t)) refl
      where
        go : (u : Bool) → utf8 (take n t) ≡ u → (ltb p (a + n) || cuts s (a + n) p) ≡ not u
        go true f = let m = longest_most t n (rw length-drop (omega arith)) f in absurd (omega arith)
        go false f = rw (lt-ltb p (a + n) (omega arith)) refl

    inside : n ≤ longest t → (ltb p (a + n) || cuts s (a + n) p) ≡ not (utf8 (take n t))
    inside l =
        let c : cuts t n (longest t) ≡ cuts s (a + n) p = rw (e, shift a n (longest t), get_or-drop a s n 0) refl in
        rw (le-ltb p (a + n) (omega arith), front t n l, c) (twice (cuts s (a + n) p))
      where
        twice : (b : Bool) → b ≡ not (not b)
        twice true = refl
        twice false = refl

-- a span that ends at or before the first ill-formed place p, by the tests of its two places
pub near_by : (s : List ℕ) (a n p : ℕ) → p ≡ longest s → a + n ≤ p → (t u : Bool) → t ≡ (ltb a p && tail_at s a) → u ≡ (ltb (a + n) p && tail_at s (a + n))
    → (not (eqb n 0) && (t || u)) ≡ ill_part s a n
near_by s a zero p e h t u et eu = sym (ap not (empty_utf8 s a))
near_by s a (suc n) p e h t u et eu =
    let f : t ≡ tail_at s a = et ∙ rw (lt-ltb a p (omega arith)) refl in
    rw (ne_eqb (suc n) 0 (λ k. omega arith), eu ∙ same) (go t f)
  where
    same : (ltb (a + suc n) p && tail_at s (a + suc n)) ≡ cuts s (a + suc n) p
    same = split (a + suc n) p (λ k. rw (lt-ltb (a + suc n) p k, ne_eqb (a + suc n) p (λ d. omega arith)) refl)
        (λ k. rw (le-ltb (a + suc n) p k, eq-eqb (a + suc n) p (omega (arith, h))) refl)

    w : longest s ≤ length s
    w = longest-within s

    go : (t : Bool) → t ≡ tail_at s a → (t || cuts s (a + suc n) p) ≡ ill_part s a (suc n)
    go true f = sym (ap not (ill-start s a n (sym f) (omega (arith, w))))
    go false f =
        let b = span-from s a (suc n) p (omega (arith, w)) (e ∙ start-after s a (omega arith) (sym f)) in
        let z : ltb p (a + suc n) ≡ false = le-ltb p (a + suc n) h in
        (let y : cuts s (a + suc n) p ≡ (ltb p (a + suc n) || cuts s (a + suc n) p) = rw z refl in y) ∙ b

-- one from a up to b that has a byte
module _ (s : List ℕ) (a b : ℕ) (l : a < b) (h : b ≤ length s) where
  -- it starts with a tail
  pub tail_ill : tail_at s a ≡ true → true ≡ ill_part s a (b - a)
  tail_ill e = let i : b - a ≡ suc (b - a - 1) = omega arith in rw i (sym (ap not (ill-start s a (b - a - 1) e (omega arith))))

  -- any other, by the next ill-formed place p
  pub far_by : tail_at s a ≡ false → (p : ℕ) → p ≡ next_ill s a → (u : Bool) → u ≡ tail_at s b → (ltb p b || (not (eqb b p) && u)) ≡ ill_part s a (b - a)
  far_by e p f u g =
      let i : a + (b - a) ≡ b = omega arith in
      let z : (ltb p (a + (b - a)) || cuts s (a + (b - a)) p) ≡ ill_part s a (b - a) = span-from s a (b - a) p (omega arith) (f ∙ next-at s a e) in
      ap (λ (d : Bool). ltb p b || (not (eqb b p) && d)) g ∙ (rw i at z)

-- what the code's three tests leave: a span that is long, ends within the text, and has a word for the block after its first
pub looked_up : (a b m k : ℕ) → ((leb (b - a) 1024 || ltb m b) || leb k (a / 1024 + 1)) ≡ false → (1024 < b - a) × (b ≤ m) × (a / 1024 + 1 < k)
looked_up a b m k e =
    let p = or_none (leb (b - a) 1024 || ltb m b) (leb k (a / 1024 + 1)) e in
    let q = or_none (leb (b - a) 1024) (ltb m b) p.0 in
    (leb-false (b - a) 1024 q.0, ltb-false m b q.1, leb-false k (a / 1024 + 1) p.1)

-- a look at all of the text
pub all-length : (s : List ℕ) → length s ≡ length (take (length s) s)
all-length s = ap length (sym (take-length s))

-- An index

-- no word at all
pub indexed_none : (s : List ℕ) → Indexed s []
indexed_none s k h l = absurd (not-suc-le-zero h)

-- one word, the longest well-formed start
pub indexed_first : (s : List ℕ) (n : ℕ) → n ≡ longest s → Indexed s (n ∷ [])
indexed_first s n e zero h l = e ∙ sym (ill-here zero s 0 (omega arith))
indexed_first s n e (suc k) h l = absurd (omega arith)

module _ (s next : List ℕ) (x : Indexed s next) where
  -- the first word
  pub word_first : 0 < length next → get_or next 0 0 ≡ longest s
  word_first h = x 0 h (omega arith) ∙ ill-here zero s 0 (omega arith)

  module _ (a : ℕ) (h : a / 1024 + 1 < length next) (w : (a / 1024 + 1) * 1024 ≤ length s) where
    -- the word of the block that a is in, where it is not before a
    pub word-here : a ≤ get_or next (a / 1024) 0 → get_or next (a / 1024) 0 ≡ next_ill s a
    word-here l =
        let e = x (a / 1024) (omega arith) (omega arith) in
        e ∙ sym (next-within s (a / 1024 * 1024) a (omega arith) (omega arith))

    module _ (t : tail_at s a ≡ false) (i : ℕ) (p : Past s a i) where
      -- a place that whole characters lead to, and that has none
      pub word_none : (j : ℕ) → PassesChars s i j → j ≡ i → i ≡ next_ill s a
      word_none j d e = let n = next-at s a t in omega (arith, p.after, d.none e)

      -- the word of the next block, where whole characters lead up to it
      pub word_next : (a / 1024 + 1) * 1024 ≤ i → get_or next (a / 1024 + 1) 0 ≡ next_ill s a
      word_next l =
          let n = next-at s a t in
          x (a / 1024 + 1) h w ∙ next-within s a ((a / 1024 + 1) * 1024) (omega arith) (omega (arith, p.after))

-- How an index is made

-- the blocks before k have their words; the others begin at or after the place `from`, where a run begins: what stands before it does not matter there
pub record Made (s next : List ℕ) (from k : ℕ) : Type 0 where
  pub within : from ≤ length s + 1
  done : (j : ℕ) → j < k → j < length next → j * 1024 ≤ length s → get_or next j 0 ≡ next_ill s (j * 1024)
  ahead : k < length next → from ≤ k * 1024
  runs : (x : ℕ) → from ≤ x → next_ill s x ≡ from + next_ill (drop from s) (x - from)

pub made_none : (s next : List ℕ) → Made s next 0 0
made_none s next = record { within = omega arith; done = λ j h. absurd (not-suc-le-zero h); ahead = λ h. omega arith; runs = λ x h. same x (x - 0) (omega arith) }
  where
    same : (x y : ℕ) → x ≡ y → next_ill s x ≡ 0 + next_ill s y
    same x y e = rw e (omega arith)

pub made_all : (s next : List ℕ) (from k : ℕ) → Made s next from k → length s < from → Indexed s next
made_all s next from k m h j l w = m.done j (split j k (λ i. i) (λ i. absurd (let a = m.ahead (omega arith) in omega arith))) l w

-- a run is passed
module _ (s next : List ℕ) (from k : ℕ) (m : Made s next from k) (h : from ≤ length s) (n : ℕ) (g : n ≡ longest (take (length s - from) (drop from s))) where
  run_is : n ≡ longest (drop from s)
  run_is = g ∙ ap longest (rest s from)

  pub run-within : from + n ≤ length s
  run-within = let w = rw length-drop at (longest-within (drop from s)) in omega (arith, run_is)

  -- a place in it
  run-here : (x : ℕ) → from ≤ x → x ≤ from + n → from + n ≡ next_ill s x
  run-here x a b = sym (m.runs x a ∙ ap (λ (i : ℕ). from + i) (ill-here (x - from) (drop from s) (x - from) (omega (arith, run_is)) ∙ sym run_is))

  -- a place after it
  run-after : (x : ℕ) → from + n + 1 ≤ x → next_ill s x ≡ from + n + 1 + next_ill (drop (from + n + 1) s) (x - (from + n + 1))
  run-after x a =
      let e = run_is in
      let f = next-after (drop from s) (x - from) (omega arith) in
      let q : from + (longest (drop from s) + 1) ≡ from + n + 1 = omega arith in
      let d : drop (longest (drop from s) + 1) (drop from s) ≡ drop (from + n + 1) s = drop-drop (longest (drop from s) + 1) from s ∙ ap (λ (i : ℕ). drop i s) q in
      let i : x - from - (longest (drop from s) + 1) ≡ x - (from + n + 1) = omega arith in
      let g : next_ill (drop (longest (drop from s) + 1) (drop from s)) (x - from - (longest (drop from s) + 1)) ≡ next_ill (drop (from + n + 1) s) (x - (from + n + 1)) = rw (d, i) refl in
      omega (arith, m.runs x (omega arith))

  pub made-next : (new : List ℕ) (j : ℕ) → Filled next k (from + n) new j → (j < length new → from + n < j * 1024) → Made s new (from + n + 1) j
  made-next new j f d = record {
    within = omega (arith, run-within);
    done = λ i a b w. split i k
        (λ c. f.kept i c ∙ m.done i c (omega (arith, f.long)) w)
        (λ c. f.stored i c a ∙ run-here (i * 1024) (let b = m.ahead (omega (arith, f.long)) in omega arith) (f.begun i c a));
    ahead = λ a. let b = d a in omega arith;
    runs = run-after;
  }
