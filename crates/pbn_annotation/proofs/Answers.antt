-- Which answer the entry gives, by the tests that it made. (01: Eight refusals)
-- Assumes nothing.
use Rattle.std.specs.Prelude.{Option, None, Some, Err, Ok}
use Prim.Native.Nat.{ℕ, ◌≤◌, ◌<◌}
use native.Mathlib.Omega.{arith}
use mathlib.Core.Path.{◌≡◌, ap, sym, ◌∙◌}
use mathlib.Core.Bool.{Bool, true, false}
use mathlib.Core.List.{List, ◌∷◌}
use lib.ListN.{length}
use borrow.Author.Tests.{lt-ltb, le-ltb}
use Rattle.lin_spec.specs.Base.{any}
use Rattle.lin_spec.specs.Records.{limit, bytes_at}
use Rattle.lin_spec.specs.Refusals.{Answer, unless, sat, passes_end, ill_span}
use Rattle.lin_spec.specs.Output.{overlay, room}
use Rattle.lin_spec.specs.Board.{map_option}
use Rattle.lin_spec.specs.Writer.{or_empty}
use Rattle.lin_spec.specs.Annotation.{note_spans, annotation_text, Annotated, write_annotation}
use Rattle.lin_spec.specs.declared.Span.{Span}
use Rattle.lin_spec.specs.declared.Refusal.TheVariants.{TextTooLong, SpanPastEnd, SpanNotUtf8, OutputTooSmall}
use Rattle.output.specs.Put.{Put}
use Rattle.output.proofs.Laws.{overlay-nil}
use Rattle.pbn_annotation.proofs.AnnotationLaws.{absent_is, present-is}

-- A fault of the raw annotation, or of a note

module _ (f : Span → Bool) (x : Span) (xs : List Span) where
  pub raw-found : f x ≡ true → true ≡ any f (x ∷ xs)
  unfolding any
  raw-found h = simp h

  pub raw-next : f x ≡ false → (t : Bool) → t ≡ any f xs → t ≡ any f (x ∷ xs)
  unfolding any
  raw-next h t e = e ∙ sym (simp h)

-- annotation_text
module _ (s : List ℕ) (raw : Span) (ws o : List ℕ) where
  abbrev Is : Answer (Option ℕ) → List ℕ → Type 0
  Is a o' = ◌≡◌ {A = Annotated} (record { answer = a; output = o' }) (write_annotation s raw ws o)

  -- the text to be written, if there is one
  abbrev made : Option (List ℕ)
  made = annotation_text s ws (bytes_at s raw)

  pub write-long : limit < length s → Is (Err TextTooLong) o
  unfolding write_annotation unless
  write-long h = simp (lt-ltb limit (length s) h)

  module _ (h : length s ≤ limit) (t : Bool) (et : t ≡ any (passes_end s) (raw ∷ note_spans ws)) where
    pub write-past : t ≡ true → Is (Err SpanPastEnd) o
    unfolding write_annotation unless
    write-past k = simp (le-ltb limit (length s) h, ← et, k)

    module _ (k : t ≡ false) (u : Bool) (eu : u ≡ any (ill_span s) (raw ∷ note_spans ws)) where
      pub write-ill : u ≡ true → Is (Err SpanNotUtf8) o
      unfolding write_annotation unless
      write-ill l = simp (le-ltb limit (length s) h, ← et, k, ← eu, l)

      module _ (l : u ≡ false) (need : ℕ) (en : need ≡ sat (length (or_empty made))) (r : ℕ) (er : r ≡ room o) where
        pub write-small : r < need → Is (Err (OutputTooSmall need)) o
        unfolding write_annotation unless
        write-small m =
            let z : room o < length (or_empty made) = omega arith in
            simp (le-ltb limit (length s) h, ← et, k, ← eu, l, lt-ltb (room o) (length (or_empty made)) z, ← en)

        module _ (m : need ≤ r) where
          -- no check refuses the call
          passed : write_annotation s raw ws o ≡ record { answer = Ok (map_option length made); output = overlay o 0 (or_empty made) }
          unfolding write_annotation unless
          passed =
              let z : length (or_empty made) ≤ room o = omega arith in
              simp (le-ltb limit (length s) h, ← et, k, ← eu, l, le-ltb (room o) (length (or_empty made)) z)

          pub write-absent : need ≡ 0 → Is (Ok None) o
          write-absent e =
              let a : made ≡ None = absent_is s ws (bytes_at s raw) (omega arith) in
              let b : overlay o 0 (or_empty made) ≡ o = ap (λ (x : Option (List ℕ)). overlay o 0 (or_empty x)) a ∙ overlay-nil o 0 in
              sym (passed ∙ λ i. record { answer = Ok (map_option length (a i)); output = b i })

          pub write_done : (need ≡ 0 → ⊥) → {o' : List ℕ} {n : ℕ} → Put o 0 (or_empty made) o' n → Is (Ok (Some n)) o'
          write_done e {o'} {n} p =
              let a : made ≡ Some (or_empty made) = present-is s ws (bytes_at s raw) (λ z. e (omega arith)) in
              let b : map_option length made ≡ Some n = ap (map_option length) a ∙ ap Some (let z : length (or_empty made) ≡ n = omega (arith, p.next) in z) in
              let d : overlay o 0 (or_empty made) ≡ o' = sym p.text in
              sym (passed ∙ λ i. record { answer = Ok (b i); output = d i })
