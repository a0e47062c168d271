-- A start of a text that is UTF-8 is UTF-8 itself exactly where it does not end within a character; and no part that starts within one is. (01: refusal 6)
-- Assumes nothing.
use Prim.Native.Nat.{ℕ, zero, suc, ◌≤◌, ◌<◌}
use native.Mathlib.Omega.{arith}
use mathlib.Core.Path.{◌≡◌, refl, ap, sym, ◌∙◌}
use mathlib.Core.Bool.{Bool, true, false, ◌&&◌, not, false≢true}
use mathlib.Core.List.{List, [], ◌∷◌}
use lib.ListN.{length, get_or, take, drop, take-append-drop, get_or-eq_default}
use lib.Seq.{drop-cons, take_all}
use lib.Dec.{eqb, leb}
use borrow.Author.Tests.{ne_eqb, leb-true, le-leb, lt-leb}
use Rattle.lin_spec.specs.Records.{part}
use Rattle.lin_spec.specs.Utf8.{Utf, first, tails, utf_step, utf, is_whole, utf8}
use Rattle.lin_spec.specs.Utf8.Utf.{whole, needs, ill}
use Rattle.lin_spec.proofs.Base.{and_left, and_right, picked, split}
use Rattle.lin_spec.proofs.Utf8.{utf-append, utf-ill, utf8-whole}
use Rattle.text.specs.Utf8.{is_tail, tail_at}

-- The bytes that the machine needs are from 80 to BF hex

abbrev Good : Utf → Type 0
Good whole = Unit
Good (needs n lo hi) = (0x80 ≤ lo) × (hi ≤ 0xBF)
Good ill = Unit

good_first : (b : ℕ) → Good (first b)
unfolding first
good_first b =
    picked Good (leb b 0x7F) (λ _. tt)
    (λ _. picked Good (leb 0xC2 b && leb b 0xDF) (λ _. (omega arith, omega arith))
    (λ _. picked Good (eqb b 0xE0) (λ _. (omega arith, omega arith))
    (λ _. picked Good (eqb b 0xED) (λ _. (omega arith, omega arith))
    (λ _. picked Good (leb 0xE1 b && leb b 0xEF) (λ _. (omega arith, omega arith))
    (λ _. picked Good (eqb b 0xF0) (λ _. (omega arith, omega arith))
    (λ _. picked Good (leb 0xF1 b && leb b 0xF3) (λ _. (omega arith, omega arith))
    (λ _. picked Good (eqb b 0xF4) (λ _. (omega arith, omega arith)) (λ _. tt))))))))

good_tails : (n : ℕ) → Good (tails n)
good_tails zero = tt
good_tails (suc n) = (omega arith, omega arith)

good_step : (u : Utf) (b : ℕ) → Good (utf_step u b)
unfolding utf_step
good_step whole b = good_first b
good_step (needs n lo hi) b = picked Good (leb lo b && leb b hi) (λ _. good_tails n) (λ _. tt)
good_step ill b = tt

good : (u : Utf) → Good u → (s : List ℕ) → Good (utf u s)
unfolding utf
good u h [] = h
good u h (b ∷ s) = good (utf_step u b) (good_step u b) s

not-whole : {P : Type 0} → ill ≡ whole → P
not-whole e = absurd (false≢true (ap is_whole e))

-- a byte that is no tail is not in a range of tails
no_tail : (b lo hi : ℕ) → 0x80 ≤ lo → hi ≤ 0xBF → is_tail b ≡ false → (leb lo b && leb b hi) ≡ false
no_tail b lo hi l h e = go (leb lo b) (leb b hi) refl refl
  where
    go : (t u : Bool) → leb lo b ≡ t → leb b hi ≡ u → (t && u) ≡ false
    go true true et eu =
        let a = leb-true lo b et in
        let c = leb-true b hi eu in
        absurd (false≢true (sym e ∙ simp (le-leb 0x80 b (omega arith), le-leb b 0xBF (omega arith))))
    go true false et eu = refl
    go false u et eu = refl

-- no character begins with a tail
first_tail : (b : ℕ) → is_tail b ≡ true → first b ≡ ill
unfolding first
first_tail b e =
    let l = leb-true 0x80 b (and_left (leb 0x80 b) (leb b 0xBF) e) in
    let h = leb-true b 0xBF (and_right (leb 0x80 b) (leb b 0xBF) e) in
    simp (lt-leb b 0x7F (omega arith), lt-leb 0xC2 b (omega arith), ne_eqb b 0xE0 (λ k. omega arith), ne_eqb b 0xED (λ k. omega arith), lt-leb 0xE1 b (omega arith), ne_eqb b 0xF0 (λ k. omega arith), lt-leb 0xF1 b (omega arith), ne_eqb b 0xF4 (λ k. omega arith))

-- a byte that is not in its range, and a text that begins with a tail
out_of_range : (n lo hi b : ℕ) (t : List ℕ) → (leb lo b && leb b hi) ≡ false → utf (needs n lo hi) (b ∷ t) ≡ ill
unfolding utf utf_step
out_of_range n lo hi b t e = rw e (utf-ill t)

tail_first : (b : ℕ) (t : List ℕ) → is_tail b ≡ true → utf whole (b ∷ t) ≡ ill
unfolding utf utf_step
tail_first b t e = rw (first_tail b e) (utf-ill t)

-- A text that is UTF-8

module _ (s : List ℕ) (w : utf8 s ≡ true) where
  -- where the machine stands at a place, the rest of the text brings it between characters
  rest-whole : (i : ℕ) → utf (utf whole (take i s)) (drop i s) ≡ whole
  rest-whole i = sym (utf-append whole (take i s) (drop i s)) ∙ ap (utf whole) (take-append-drop i s) ∙ utf8-whole s w

  -- before a byte that is no tail, and at the end, it stands between characters
  at-whole : (i : ℕ) → i ≤ length s → tail_at s i ≡ false → utf whole (take i s) ≡ whole
  at-whole i h e = split i (length s) (λ k. go (utf whole (take i s)) (good whole tt (take i s)) (rw (drop-cons s i 0 k) at (rest-whole i)))
      (λ k. ap (utf whole) (take_all i s k) ∙ utf8-whole s w)
    where
      go : (u : Utf) → Good u → utf u (get_or s i 0 ∷ drop (suc i) s) ≡ whole → u ≡ whole
      go whole g f = refl
      go (needs n lo hi) g f = not-whole (sym (out_of_range n lo hi (get_or s i 0) (drop (suc i) s) (no_tail (get_or s i 0) lo hi g.0 g.1 e)) ∙ f)
      go ill g f = not-whole (sym (utf-ill (get_or s i 0 ∷ drop (suc i) s)) ∙ f)

  -- before a tail it does not
  tail_within : (i : ℕ) → tail_at s i ≡ true → is_whole (utf whole (take i s)) ≡ false
  tail_within i e = split i (length s) (λ k. go (utf whole (take i s)) (rw (drop-cons s i 0 k) at (rest-whole i)))
      (λ k. absurd (false≢true ((let z : tail_at s i ≡ false = rw (get_or-eq_default s 0 k) in sym z) ∙ e)))
    where
      go : (u : Utf) → utf u (get_or s i 0 ∷ drop (suc i) s) ≡ whole → is_whole u ≡ false
      go whole f = not-whole (sym (tail_first (get_or s i 0) (drop (suc i) s) e) ∙ f)
      go (needs n lo hi) f = refl
      go ill f = refl

  -- a start of it, by the byte that follows
  pub start_is : (i : ℕ) → i ≤ length s → (t : Bool) → tail_at s i ≡ t → utf8 (take i s) ≡ not t
  unfolding utf8
  start_is i h true e = tail_within i e
  start_is i h false e = ap is_whole (at-whole i h e)

-- a part that starts with a tail
pub ill-start : (s : List ℕ) (a n : ℕ) → tail_at s a ≡ true → a < length s → utf8 (part s a (suc n)) ≡ false
unfolding part utf8
ill-start s a n e h = rw (drop-cons s a 0 h) (ap is_whole (tail_first (get_or s a 0) (take n (drop (suc a) s)) e))

pub empty_utf8 : (s : List ℕ) (a : ℕ) → utf8 (part s a 0) ≡ true
unfolding part utf8 utf
empty_utf8 s a = refl

-- beyond the end there is no tail
pub tail_beyond : (s : List ℕ) (i : ℕ) → length s ≤ i → false ≡ tail_at s i
tail_beyond s i h = rw (get_or-eq_default s 0 h)
