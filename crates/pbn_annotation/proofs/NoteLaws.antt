-- Laws of notes: one note off the front of the words, and whether a note has a fault. (01: From PBN, "a note span or absent ..")
-- Assumes nothing.
use Prim.Native.Nat.{ℕ, suc, ◌+◌, ◌/◌}
use native.Mathlib.Omega.{arith}
use mathlib.Core.Path.{◌≡◌, refl, ap, sym, ◌∙◌}
use mathlib.Core.Bool.{Bool, true, false, ◌||◌, or-false}
use mathlib.Core.List.{List, [], ◌∷◌}
use lib.ListN.{length, get_or}
use lib.Dec.{eqb}
use Rattle.std.specs.List.{list_any}
use Rattle.std.specs.Simd.{first_chunks}
use borrow.Author.Tests.{eq-eqb, ne_eqb}
use Rattle.lin_spec.specs.Base.{pick, any}
use Rattle.lin_spec.specs.Records.{span}
use Rattle.lin_spec.specs.Annotation.{note_spans}
use Rattle.lin_spec.specs.declared.Span.{Span}
use Rattle.pbn_annotation.specs.Notes.{note_at}

-- The note of the words from i on

module _ (f : Span → Bool) (ws : List ℕ) (i : ℕ) where
  pub note-none : get_or ws i 0 ≡ 0 → false ≡ any f (note_at ws i)
  unfolding any
  note-none h = simp (eq-eqb _ _ h)

  pub note-one : (get_or ws i 0 ≡ 0 → ⊥) → (t : Bool) → t ≡ f (span (get_or ws (i + 1) 0) (get_or ws (i + 2) 0)) → t ≡ any f (note_at ws i)
  unfolding any
  note-one h t e = e ∙ sym (simp (ne_eqb _ _ h, or-false))

-- Whether a note passes a test: the notes are the chunks of three words

-- the library's word for it
any_is : {A : Type 0} (f : A → Bool) (xs : List A) → list_any f xs ≡ any f xs
unfolding any
any_is f [] = refl
any_is f (x ∷ xs) = ap (λ (t : Bool). f x || t) (any_is f xs)

module _ (f : Span → Bool) where
  any-notes : (ws : List ℕ) → list_any (λ r. any f (note_at r 0)) (first_chunks 3 (length ws / 3) ws) ≡ any f (note_spans ws)
  unfolding any note_spans
  any-notes [] = refl
  any-notes (a ∷ []) = refl
  any-notes (a ∷ b ∷ []) = refl
  any-notes (t ∷ a ∷ n ∷ ws) = let m : length (t ∷ a ∷ n ∷ ws) / 3 ≡ suc (length ws / 3) = omega arith in
      rw m (go (eqb t 0) (any-notes ws))
    where
      x : Span
      x = span a n

      go : (u : Bool) → list_any (λ r. any f (note_at r 0)) (first_chunks 3 (length ws / 3) ws) ≡ any f (note_spans ws)
          → (any f (pick u [] (x ∷ [])) || list_any (λ r. any f (note_at r 0)) (first_chunks 3 (length ws / 3) ws)) ≡ any f (pick u (note_spans ws) (x ∷ note_spans ws))
      go true ih = ih
      go false ih = rw or-false (ap (λ (u : Bool). f x || u) ih)

  pub any_chunks : (ws : List ℕ) (rs : List (List ℕ)) → rs ≡ first_chunks 3 (length ws / 3) ws → list_any (λ r. any f (note_at r 0)) rs ≡ any f (note_spans ws)
  any_chunks ws rs e = ap (list_any (λ r. any f (note_at r 0))) e ∙ any-notes ws
