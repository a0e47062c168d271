-- Laws of words: the word of a part by its first byte, its bytes, and a word with the space before it. (01: From PBN, "Annotation parts ..")
-- Assumes nothing.
use Rattle.std.specs.Prelude.{Option, None, Some}
use Prim.Native.Nat.{ℕ, zero, suc, ◌+◌, ◌-◌, ◌*◌, ◌≤◌, ◌<◌, min}
use Prim.Native.Char.{code}
use native.Mathlib.Omega.{arith}
use mathlib.Core.Path.{◌≡◌, refl, ap, sym, ◌∙◌, subst}
use mathlib.Core.Bool.{Bool, true, false, not, and-false, false≢true}
use mathlib.Core.List.{List, [], ◌∷◌, ◌++◌, append-nil}
use lib.ListN.{length, get_or, take, drop}
use lib.Dec.{eqb}
use borrow.Author.Tests.{eq-eqb, ne_eqb, eqb-true}
use Rattle.lin_spec.specs.Base.{pick, starts, eq_all}
use Rattle.lin_spec.specs.Records.{span}
use Rattle.lin_spec.specs.Board.{is_digit, ends_in, number_in}
use Rattle.lin_spec.specs.Annotation.{note_of, run, is_mark, char_bytes, part_length, nag_word, note_text, note_word, between, part_word}
use Rattle.lin_spec.specs.Utf8.{first}
use Rattle.lin_spec.specs.declared.Span.{Span}
use Rattle.lin_spec.proofs.Base.{picked}
use Rattle.output.specs.Put.{Room, Put}
use Rattle.output.proofs.Laws.{overlay-nil}
use Rattle.pbn_words.specs.declared.words.Word.{Word}
use Rattle.pbn_words.specs.declared.words.Word.TheVariants.{Nothing, Itself, Note, Mark}
use Rattle.pbn_words.specs.Words.{note_by, note_named, number_by, equals_word, nag_of, front_word, word_text, spaced_word, spaced_length}
use Rattle.pbn_words.proofs.PartLaws.{run_take}

-- Which word: a note by its number

module _ (ws : List ℕ) (n : ℕ) where
  pub note_absent : get_or ws (n * 3) 0 ≡ 0 → Itself ≡ note_named ws n
  unfolding note_of
  note_absent h = simp (eq-eqb _ _ h)

  pub note-present : (get_or ws (n * 3) 0 ≡ 0 → ⊥) → Note (span (get_or ws (n * 3 + 1) 0) (get_or ws (n * 3 + 2) 0)) ≡ note_named ws n
  unfolding note_of
  note-present h = simp (ne_eqb _ _ h)

-- a part that begins with `=`

ends_last : (c d : ℕ) (q : List ℕ) → ends_in c (d ∷ q) ≡ eqb (get_or (d ∷ q) (length q) 0) c
unfolding ends_in
ends_last c d [] = refl
ends_last c d (e ∷ q) = ends_last c e q

pub equals_short : (ws p : List ℕ) → length p < 2 → Nothing ≡ equals_word ws p
unfolding equals_word ends_in
equals_short ws [] h = refl
equals_short ws (b ∷ []) h = refl
equals_short ws (b ∷ d ∷ p) h = absurd (let z : ⊥ = omega arith in z)

last-is : (p : List ℕ) → 2 ≤ length p → ends_in 0x3D (drop 1 p) ≡ eqb (get_or p (length p - 1) 0) 0x3D
last-is [] h = absurd (let z : ⊥ = omega arith in z)
last-is (b ∷ []) h = absurd (let z : ⊥ = omega arith in z)
last-is (b ∷ d ∷ q) h = ends_last 0x3D d q ∙ ap (λ (m : ℕ). eqb (get_or (b ∷ d ∷ q) m 0) 0x3D) (let z : suc (length q) ≡ suc (suc (length q)) - 1 = omega arith in z)

module _ (ws p : List ℕ) (h : 2 ≤ length p) where
  pub equals_open : (get_or p (length p - 1) 0 ≡ 0x3D → ⊥) → Nothing ≡ equals_word ws p
  unfolding equals_word
  equals_open k = simp (last-is p h, ne_eqb _ _ k)

  module _ (k : get_or p (length p - 1) 0 ≡ 0x3D) where
    closed : equals_word ws p ≡ number_by ws (number_in 255 (between p))
    unfolding equals_word
    closed = simp (last-is p h, eq-eqb _ _ k)

    -- the number that was read between the two
    module _ (r : Option ℕ) (e : r ≡ number_in 255 (take (length p - 1 - 1) (drop 1 p))) where
      number_is : r ≡ number_in 255 (between p)
      number_is = e ∙ ap (λ (m : ℕ). number_in 255 (take m (drop 1 p))) (let z : length p - 1 - 1 ≡ length p - 2 = omega arith in z)

      pub equals_note : (n : ℕ) → r ≡ Some n → (w : Word) → w ≡ note_named ws n → w ≡ equals_word ws p
      equals_note n f w g = g ∙ ap (number_by ws) ((sym f) ∙ number_is) ∙ sym closed

      pub equals_itself : r ≡ None → Itself ≡ equals_word ws p
      equals_itself f = ap (number_by ws) ((sym f) ∙ number_is) ∙ sym closed

-- a part that begins with `$`

pub nag_none : (p : List ℕ) → (length p ≡ 2 → ⊥) → Nothing ≡ nag_of p
unfolding nag_of
nag_none [] h = refl
nag_none (b ∷ []) h = refl
nag_none (b ∷ d ∷ []) h = absurd (h refl)
nag_none (b ∷ d ∷ e ∷ p) h = refl

pub nag_mark : (p : List ℕ) → length p ≡ 2 → Mark (get_or p 1 0) ≡ nag_of p
unfolding nag_of
nag_mark [] h = absurd (let z : ⊥ = omega arith in z)
nag_mark (b ∷ []) h = absurd (let z : ⊥ = omega arith in z)
nag_mark (b ∷ d ∷ []) h = refl
nag_mark (b ∷ d ∷ e ∷ p) h = absurd (let z : ⊥ = omega arith in z)

-- any part

pub front-none : (ws p : List ℕ) → length p ≡ 0 → Nothing ≡ front_word ws p
unfolding front_word
front-none ws [] h = refl
front-none ws (b ∷ p) h = absurd (let z : ⊥ = omega arith in z)

front-is : (ws p : List ℕ) → (length p ≡ 0 → ⊥)
    → front_word ws p ≡ pick (eqb (get_or p 0 0) 0x3D) (equals_word ws p) (pick (eqb (get_or p 0 0) 0x24) (nag_of p) (pick (is_mark (get_or p 0 0)) Itself Nothing))
unfolding front_word
front-is ws [] h = absurd (h refl)
front-is ws (b ∷ p) h = refl

module _ (ws p : List ℕ) (h : length p ≡ 0 → ⊥) where
  pub front_equals : get_or p 0 0 ≡ 0x3D → (w : Word) → w ≡ equals_word ws p → w ≡ front_word ws p
  front_equals e w k = k ∙ sym (front-is ws p h ∙ simp (eq-eqb _ _ e))

  module _ (x : get_or p 0 0 ≡ 0x3D → ⊥) where
    pub front_nag : get_or p 0 0 ≡ 0x24 → (w : Word) → w ≡ nag_of p → w ≡ front_word ws p
    front_nag e w k = k ∙ sym (front-is ws p h ∙ simp (ne_eqb _ _ x, eq-eqb _ _ e))

    module _ (y : get_or p 0 0 ≡ 0x24 → ⊥) (t : Bool) (e : t ≡ is_mark (get_or p 0 0)) where
      pub front-mark : t ≡ true → Itself ≡ front_word ws p
      front-mark k = sym (front-is ws p h ∙ simp (ne_eqb _ _ x, ne_eqb _ _ y, ← e, k))

      pub front-other : t ≡ false → Nothing ≡ front_word ws p
      front-other k = sym (front-is ws p h ∙ simp (ne_eqb _ _ x, ne_eqb _ _ y, ← e, k))

-- The word by the first byte of a part is the word of the part

zero-suc : (n : ℕ) → eqb 0 (suc n) ≡ false
zero-suc n = ne_eqb 0 (suc n) (λ e. omega arith)

module _ (s ws : List ℕ) where
  note-same : (p : List ℕ) (o : Option Span) → word_text s p (note_by o) ≡ note_text s p o
  note-same p None = refl
  note-same p (Some x) = refl

  number_same : (p : List ℕ) (o : Option ℕ) → word_text s p (number_by ws o) ≡ note_word s ws p o
  number_same p None = refl
  number_same p (Some n) = note-same p (note_of ws n)

  word_equals : (q : List ℕ) → word_text s (0x3D ∷ q) (equals_word ws (0x3D ∷ q)) ≡ part_word s ws (0x3D ∷ q)
  unfolding equals_word part_word starts run nag_word eq_all
  word_equals q = go (ends_in 0x3D q) ∙ simp (zero-suc (length q))
    where
      p : List ℕ
      p = 0x3D ∷ q

      go : (t : Bool) → word_text s p (pick t (number_by ws (number_in 255 (between p))) Nothing) ≡ pick t (note_word s ws p (number_in 255 (between p))) []
      go true = number_same p (number_in 255 (between p))
      go false = refl

  word_dollar : (q : List ℕ) → word_text s (0x24 ∷ q) (nag_of (0x24 ∷ q)) ≡ part_word s ws (0x24 ∷ q)
  unfolding nag_of part_word starts run nag_word eq_all
  word_dollar [] = refl
  word_dollar (d ∷ []) = refl
  word_dollar (d ∷ e ∷ q) = simp (zero-suc (suc (suc (length q))), and-false)

  module _ (b : ℕ) (q : List ℕ) (x : eqb b 0x3D ≡ false) where
    word-mark : is_mark b ≡ true → run is_mark q ≡ length q → b ∷ q ≡ part_word s ws (b ∷ q)
    unfolding part_word starts run
    word-mark h k = simp (x, h, k, eq-eqb (suc (length q)) (suc (length q)) refl)

    word-other : eqb b 0x24 ≡ false → is_mark b ≡ false → [] ≡ part_word s ws (b ∷ q)
    unfolding part_word starts run nag_word eq_all
    word-other y h = simp (x, y, h, zero-suc (length q))

  abbrev Same : List ℕ → Type 0
  Same p = word_text s p (front_word ws p) ≡ part_word s ws p

  same_none : Same []
  unfolding front_word part_word starts run
  same_none = refl

  same_equals : (b : ℕ) (q : List ℕ) → b ≡ 0x3D → Same (b ∷ q)
  unfolding front_word
  same_equals b q e = subst (λ (c : ℕ). Same (c ∷ q)) (sym e) (word_equals q)

  same_dollar : (b : ℕ) (q : List ℕ) → b ≡ 0x24 → Same (b ∷ q)
  unfolding front_word
  same_dollar b q e = subst (λ (c : ℕ). Same (c ∷ q)) (sym e) (word_dollar q)

  module _ (b : ℕ) (x : eqb b 0x3D ≡ false) (y : eqb b 0x24 ≡ false) where
    same-mark : (q : List ℕ) → is_mark b ≡ true → run is_mark q ≡ length q → Same (b ∷ q)
    unfolding front_word
    same-mark q h k = simp (x, y, h) (word-mark b q x h k)

    same-other : (q : List ℕ) → is_mark b ≡ false → Same (b ∷ q)
    unfolding front_word
    same-other q h = simp (x, y, h) (word-other b q x y h)

  -- the first k bytes, what holds of any that begin with b
  some_bytes : (b : ℕ) (t : List ℕ) → ((q : List ℕ) → Same (b ∷ q)) → (k : ℕ) → Same (take k (b ∷ t))
  some_bytes b t f zero = same_none
  some_bytes b t f (suc k) = f (take k t)

  pub word-front : (b : ℕ) (t : List ℕ) → Same (take (part_length (b ∷ t)) (b ∷ t))
  unfolding part_length
  word-front b t =
      let P : ℕ → Type 0 = λ (k : ℕ). Same (take k (b ∷ t)) in
      picked P (eqb b 0x3D) (λ e. some_bytes b t (λ q. same_equals b q (eqb-true b 0x3D e)) (min (run (λ c. not (eqb c (code "="))) t + 2) (suc (length t)))) λ x.
      picked P (eqb b 0x24) (λ e. same_dollar b (take (run is_digit t) t) (eqb-true b 0x24 e)) λ y.
      picked P (is_mark b) (λ h. same-mark b x y (take (run is_mark t) t) h (run_take is_mark t)) (λ h. some_bytes b t (λ q. same-other b x y q h) (char_bytes (first b)))

-- A word with the space before it

pub spaced_length_lem : (t : Bool) (w : List ℕ) → length (spaced_word t w) ≡ spaced_length t (length w)
spaced_length_lem t [] = refl
spaced_length_lem true (b ∷ w) = simp (ne_eqb (suc (length w)) 0 (λ e. omega arith))
spaced_length_lem false (b ∷ w) = simp (ne_eqb (suc (length w)) 0 (λ e. omega arith))

pub spaced_none : (t : Bool) (w : List ℕ) → length w ≡ 0 → spaced_word t w ≡ []
spaced_none t [] h = refl
spaced_none t (b ∷ w) h = absurd (let z : ⊥ = omega arith in z)

pub spaced_later : (t : Bool) (w : List ℕ) → t ≡ true → (length w ≡ 0 → ⊥) → spaced_word t w ≡ (0x20 ∷ []) ++ (w ++ [])
spaced_later false w h k = absurd (false≢true h)
spaced_later true [] h k = absurd (k refl)
spaced_later true (b ∷ w) h k = simp append-nil

-- Room for a text, and a text put, under another name

pub room_as : {o : List ℕ} {at : ℕ} {x y : List ℕ} → x ≡ y → Room o at x → Room o at y
room_as {o} {at} e r = subst (Room o at) e r

pub put_as : {o : List ℕ} {at : ℕ} {x y o' : List ℕ} {at' : ℕ} → x ≡ y → Put o at x o' at' → Put o at y o' at'
put_as {o} {at} {x} {y} {o'} {at'} e p = subst (λ (w : List ℕ). Put o at w o' at') e p

-- nothing put
pub put_none : (o : List ℕ) (at : ℕ) → Put o at [] o at
put_none o at = record { next = omega arith; text = sym (overlay-nil o at) }
