-- Laws of cleaned texts: byte by byte, what is left to write, and lengths. (01: Writer, clean)
-- Assumes nothing.
use Rattle.std.specs.Prelude.{Option, Some}
use Prim.Native.Nat.{ℕ, suc, ◌+◌, ◌≤◌, ◌<◌}
use native.Mathlib.Numerals.{add-one}
use native.Mathlib.Omega.{arith}
use mathlib.Core.Path.{◌≡◌, refl, ap, ◌∙◌}
use mathlib.Core.Bool.{Bool, true, false, not, cond}
use mathlib.Core.List.{List, [], ◌∷◌, ◌++◌, append-nil}
use lib.ListN.{length, get_or, drop, set, length-append, drop_of_length-le}
use lib.Seq.{drop-cons}
use Rattle.std.specs.List.{filter}
use lib.Dec.{eqb}
use borrow.Author.Tests.{eq-eqb}
use Rattle.lin_spec.specs.Base.{pick, keep, ascii, join_by}
use Rattle.lin_spec.specs.Records.{bytes_at}
use Rattle.lin_spec.specs.Writer.{clean, clean_name}
use Rattle.lin_spec.specs.declared.Span.{Span}
use Rattle.lin_spec.proofs.Base.{keep_cons}
use Rattle.output.specs.Put.{joined}
use Rattle.output.proofs.Laws.{Left, store}
use Rattle.writer_texts.specs.Texts.{clean_byte, kept, after_text, header_text, name_at, names_pieces, names_text}

module _ (p q : ℕ) where
  pub clean_cons : (b : ℕ) (s : List ℕ) → clean p q (b ∷ s) ≡ clean_byte p q b ∷ clean p q s
  unfolding clean
  clean_cons b s = refl

  pub clean-nil : clean p q [] ≡ []
  unfolding clean
  clean-nil = refl

  pub clean-length : (s : List ℕ) → length (clean p q s) ≡ length s
  unfolding clean
  clean-length [] = refl
  clean-length (b ∷ s) = ap suc (clean-length s)

  -- from the byte j on
  clean-from : (s : List ℕ) (j : ℕ) → j < length s → clean p q (drop j s) ≡ clean_byte p q (get_or s j 0) ∷ clean p q (drop (j + 1) s)
  clean-from s j h = rw (add-one j, drop-cons s j 0 h) (clean_cons (get_or s j 0) (drop (suc j) s))

  pub clean_end : (s : List ℕ) (j : ℕ) → length s ≤ j → clean p q (drop j s) ≡ []
  clean_end s j h = rw (drop_of_length-le s h) clean-nil

  -- a turn of a loop that writes each byte of s, cleaned, at the byte j
  module _ (s : List ℕ) (j : ℕ) (h : j < length s) {d : List ℕ} {pos : ℕ} {d₀ : List ℕ} {at : ℕ} {whole : List ℕ} (l : Left d pos (clean p q (drop j s)) d₀ at whole) where
    pub clean-inside : pos < length d
    clean-inside = omega (arith, l.room, ap length (clean-from s j h))

    pub clean-turn : (b : ℕ) → b ≡ clean_byte p q (get_or s j 0) → Left (set d pos b) (pos + 1) (clean p q (drop (j + 1) s)) d₀ at whole
    clean-turn b e = rw e (store (rw (clean-from s j h) at l))

  -- names
  name_nil : clean_name p q [] ≡ []
  unfolding clean keep
  name_nil = refl

  name_cons : (b : ℕ) (s : List ℕ) → clean_name p q (b ∷ s) ≡ kept (clean_byte p q b) ++ clean_name p q s
  unfolding clean
  name_cons b s = keep_cons (λ (c : ℕ). not (eqb c 0x2C)) (clean_byte p q b) (clean p q s)

  name_from : (s : List ℕ) (j : ℕ) → j < length s → (b : ℕ) → b ≡ clean_byte p q (get_or s j 0) → clean_name p q (drop j s) ≡ kept b ++ clean_name p q (drop (j + 1) s)
  name_from s j h b e = rw (e, add-one j, drop-cons s j 0 h) (name_cons (get_or s j 0) (drop (suc j) s))

  pub name_end : (s : List ℕ) (j : ℕ) → length s ≤ j → clean_name p q (drop j s) ≡ []
  name_end s j h = rw (drop_of_length-le s h) name_nil

  -- a turn of a loop that writes each byte of a name
  pub name_left : (s : List ℕ) (j : ℕ) (h : j < length s) (b : ℕ) → b ≡ clean_byte p q (get_or s j 0) → {d : List ℕ} {pos : ℕ} {d₀ : List ℕ} {at : ℕ} {whole : List ℕ}
      → Left d pos (clean_name p q (drop j s)) d₀ at whole → Left d pos (kept b ++ clean_name p q (drop (j + 1) s)) d₀ at whole
  name_left s j h b e l = rw (name_from s j h b e) at l

  -- those of a name that are kept are as many as it is written with
  pub name_many : (s : List ℕ) → length (filter (λ b. not (eqb (clean_byte p q b) 0x2C)) s) ≡ length (clean_name p q s)
  unfolding clean keep
  name_many [] = refl
  name_many (b ∷ s) = go (not (eqb (clean_byte p q b) 0x2C)) (name_many s)
    where
      go : (t : Bool) → length (filter (λ b. not (eqb (clean_byte p q b) 0x2C)) s) ≡ length (clean_name p q s) → length (cond t (b ∷ filter (λ b. not (eqb (clean_byte p q b) 0x2C)) s) (filter (λ b. not (eqb (clean_byte p q b) 0x2C)) s))
          ≡ length (pick t (clean_byte p q b ∷ clean_name p q s) (clean_name p q s))
      go true h = ap suc h
      go false h = h

pub kept_comma : (b : ℕ) → b ≡ 0x2C → kept b ≡ []
kept_comma b e = simp (eq-eqb b 0x2C e)

-- a text after a word
pub after-length : (p q : ℕ) (w s : List ℕ) → length (after_text p q w s) ≡ length w + length s + 1
unfolding after_text
after-length p q w s = simp (length-append, clean-length, append-nil) (omega arith)

-- the header
pub header-some : (p q : ℕ) (s : List ℕ) (x : Span) → header_text p q s (Some x) ≡ after_text p q (ascii "ah|") (bytes_at s x)
unfolding after_text
header-some p q s x = simp append-nil

pub header-long : (p q : ℕ) (s : List ℕ) (x : Option Span) (y : Span) → x ≡ Some y → length (header_text p q s x) ≡ length (bytes_at s y) + 4
header-long p q s x y e =
    let k = ap (λ (z : Option Span). length (header_text p q s z)) e ∙ ap length (header-some p q s y) in
    let l = after-length p q (ascii "ah|") (bytes_at s y) in
    omega arith

-- the names
module _ (p q : ℕ) (s : List ℕ) where
  pub names-is : (xs : List Span) → length xs ≡ 4 → names_text p q s xs ≡ joined (names_pieces p q s xs)
  unfolding names_text join_by
  names-is (a ∷ b ∷ c ∷ d ∷ []) h = simp append-nil
  names-is [] h = absurd (let z : ⊥ = omega arith in z)
  names-is (a ∷ []) h = absurd (let z : ⊥ = omega arith in z)
  names-is (a ∷ b ∷ []) h = absurd (let z : ⊥ = omega arith in z)
  names-is (a ∷ b ∷ c ∷ []) h = absurd (let z : ⊥ = omega arith in z)
  names-is (a ∷ b ∷ c ∷ d ∷ e ∷ xs) h = absurd (let z : ⊥ = omega arith in z)

  pub names-long : (xs : List Span) → length xs ≡ 4
      → length (names_text p q s xs) ≡ length (name_at p q s xs 0) + length (name_at p q s xs 1) + (length (name_at p q s xs 2) + length (name_at p q s xs 3) + 3)
  names-long xs h = ap length (names-is xs h) ∙ simp (length-append, append-nil) (omega arith)
