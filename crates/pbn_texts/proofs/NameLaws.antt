-- Laws of the four names: one by one, back to back, and where each stands. (01: From PBN)
-- Assumes nothing.
use Rattle.std.specs.Prelude.{Option, None, Some}
use Prim.Native.Nat.{ℕ, ◌+◌, ◌*◌, ◌≤◌}
use native.Mathlib.Nat.{zero-add}
use native.Mathlib.Omega.{arith}
use mathlib.Core.Path.{◌≡◌, refl, ap, ◌∙◌}
use mathlib.Core.Bool.{not}
use mathlib.Core.List.{List, [], ◌∷◌, map, append-nil}
use lib.ListN.{length, get_or, length-append}
use lib.Dec.{eqb}
use Rattle.lin_spec.specs.Base.{keep, concat}
use Rattle.lin_spec.specs.Records.{span, bytes_at}
use Rattle.lin_spec.specs.Writer.{clean}
use Rattle.lin_spec.specs.Pbn.{name_by, laid_names}
use Rattle.lin_spec.specs.declared.Span.{Span}
use Rattle.lin_spec.proofs.Base.{keep_most}
use Rattle.output.specs.Put.{joined}
use Rattle.writer_texts.proofs.TextLaws.{clean-length}
use Rattle.pbn_texts.specs.Names.{pbn_name_at, pbn_names_pieces, pbn_names_text}
use Rattle.pbn_texts.proofs.TextLaws.{bytes_most}

module _ (p q : ℕ) (s : List ℕ) where
  pub name_absent : (x : Option Span) → x ≡ None → name_by p q s x ≡ []
  unfolding clean keep
  name_absent x e = rw e refl

  pub names-are : (ms : List (Option Span)) → length ms ≡ 4 → pbn_names_text p q s ms ≡ joined (pbn_names_pieces p q s ms)
  unfolding pbn_names_text concat
  names-are (a ∷ b ∷ c ∷ d ∷ []) h = refl
  names-are [] h = absurd (let z : ⊥ = omega arith in z)
  names-are (a ∷ []) h = absurd (let z : ⊥ = omega arith in z)
  names-are (a ∷ b ∷ []) h = absurd (let z : ⊥ = omega arith in z)
  names-are (a ∷ b ∷ c ∷ []) h = absurd (let z : ⊥ = omega arith in z)
  names-are (a ∷ b ∷ c ∷ d ∷ e ∷ ms) h = absurd (let z : ⊥ = omega arith in z)

  -- how many bytes they have
  names-long : (ms : List (Option Span)) → length ms ≡ 4
      → length (pbn_names_text p q s ms) ≡ length (pbn_name_at p q s ms 0) + length (pbn_name_at p q s ms 1) + (length (pbn_name_at p q s ms 2) + length (pbn_name_at p q s ms 3))
  names-long ms h =
      ap length (names-are ms h)
      ∙ simp (length-append, append-nil) (omega arith)

  -- no name is longer than the text
  pub name_most : (x : Option Span) → length (name_by p q s x) ≤ length s
  unfolding clean keep
  name_most None = omega arith
  name_most (Some y) = omega (arith, keep_most (λ (b : ℕ). not (eqb b 0x2C)) (clean p q (bytes_at s y)), clean-length p q (bytes_at s y), bytes_most s y)

  -- where each stands
  pub names-placed : (ms : List (Option Span)) → length ms ≡ 4 → (a b c d : ℕ) → a ≡ length (pbn_name_at p q s ms 0) → b ≡ length (pbn_name_at p q s ms 1) → c ≡ length (pbn_name_at p q s ms 2) → d ≡ length (pbn_name_at p q s ms 3)
      → (span 0 a ∷ span a b ∷ span (a + b) c ∷ span (a + b + c) d ∷ []) ≡ laid_names 0 (map (name_by p q s) ms)
  unfolding laid_names
  names-placed (w ∷ x ∷ y ∷ z ∷ []) h a b c d e f g k = rw (e, f, g, k, zero-add (length (name_by p q s w))) refl
  names-placed [] h a b c d e f g k = absurd (let z : ⊥ = omega arith in z)
  names-placed (w ∷ []) h a b c d e f g k = absurd (let z : ⊥ = omega arith in z)
  names-placed (w ∷ x ∷ []) h a b c d e f g k = absurd (let z : ⊥ = omega arith in z)
  names-placed (w ∷ x ∷ y ∷ []) h a b c d e f g k = absurd (let z : ⊥ = omega arith in z)
  names-placed (w ∷ x ∷ y ∷ z ∷ v ∷ ms) h a b c d e f g k = absurd (let u : ⊥ = omega arith in u)

  -- they end where the last ends
  pub names-end : (ms : List (Option Span)) → length ms ≡ 4 → (xs : List Span) → xs ≡ laid_names 0 (map (name_by p q s) ms)
      → (get_or xs 3 (span 0 0)).start + (get_or xs 3 (span 0 0)).len ≡ length (pbn_names_text p q s ms)
  unfolding laid_names
  names-end (w ∷ x ∷ y ∷ z ∷ []) h xs e = rw e (omega (arith, names-long (w ∷ x ∷ y ∷ z ∷ []) h))
  names-end [] h xs e = absurd (let z : ⊥ = omega arith in z)
  names-end (w ∷ []) h xs e = absurd (let z : ⊥ = omega arith in z)
  names-end (w ∷ x ∷ []) h xs e = absurd (let z : ⊥ = omega arith in z)
  names-end (w ∷ x ∷ y ∷ []) h xs e = absurd (let z : ⊥ = omega arith in z)
  names-end (w ∷ x ∷ y ∷ z ∷ v ∷ ms) h xs e = absurd (let u : ⊥ = omega arith in u)

  pub names_most : (ms : List (Option Span)) → length ms ≡ 4 → length (pbn_names_text p q s ms) ≤ 4 * length s
  names_most ms h =
      omega (arith, names-long ms h, name_most (get_or ms 0 None), name_most (get_or ms 1 None), name_most (get_or ms 2 None), name_most (get_or ms 3 None))
