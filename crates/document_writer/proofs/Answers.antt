-- Which answer the document writer gives, by the tests that it made. (01: Eight refusals)
-- Assumes nothing.
use Rattle.std.specs.Prelude.{Err, Ok, Option}
use Prim.Native.Nat.{ℕ, ◌+◌, ◌≤◌, ◌<◌}
use native.Mathlib.Omega.{arith}
use mathlib.Core.Path.{◌≡◌, sym, ap, ◌∙◌}
use mathlib.Core.Bool.{Bool, true, false}
use mathlib.Core.List.{List, [], ◌∷◌}
use lib.ListN.{length}
use borrow.Author.Tests.{lt-ltb, le-ltb}
use Rattle.lin_spec.specs.Base.{any}
use Rattle.lin_spec.specs.Records.{limit}
use Rattle.lin_spec.specs.Refusals.{Answer, unless, sat, passes_end, ill_span, past_end, span_not_utf8, too_long, too_small}
use Rattle.lin_spec.specs.Output.{Outcome, room, output_after, fill}
use Rattle.lin_spec.specs.Document.{rows_in, spans_of, document_text, write_document}
use Rattle.lin_spec.specs.declared.Span.{Span}
use Rattle.lin_spec.specs.declared.Refusal.TheVariants.{TextTooLong, SpanPastEnd, SpanNotUtf8, OutputTooSmall}
use Rattle.output.specs.Put.{Put}
use Rattle.lin_spec.specs.declared.Refusal.{Refusal}
use Rattle.lin_spec.proofs.Checks.{unmet, unless-same, unless-refused}
use Rattle.document_writer.specs.Rows.{looked, Lawful}

-- write_document
module _ (s ws : List ℕ) (tr : Span) (o : List ℕ) where
  pub write-long : limit < length s → ◌≡◌ {A = Outcome} (record { answer = Err TextTooLong; output = o }) (write_document s ws tr o)
  unfolding write_document fill unless
  write-long h = simp (lt-ltb limit (length s) h)

  module _ (h : length s ≤ limit) (t : Bool) (et : t ≡ any (passes_end s) (spans_of (rows_in ws) tr)) where
    pub write-past : t ≡ true → ◌≡◌ {A = Outcome} (record { answer = Err SpanPastEnd; output = o }) (write_document s ws tr o)
    unfolding write_document fill unless
    write-past k = simp (le-ltb limit (length s) h, ← et, k)

    module _ (k : t ≡ false) (u : Bool) (eu : u ≡ any (ill_span s) (spans_of (rows_in ws) tr)) where
      pub write-ill : u ≡ true → ◌≡◌ {A = Outcome} (record { answer = Err SpanNotUtf8; output = o }) (write_document s ws tr o)
      unfolding write_document fill unless
      write-ill l = simp (le-ltb limit (length s) h, ← et, k, ← eu, l)

      module _ (l : u ≡ false) (need : ℕ) (en : need ≡ sat (length (document_text s ws tr))) (r : ℕ) (er : r ≡ room o) where
        pub write-small : r < need → ◌≡◌ {A = Outcome} (record { answer = Err (OutputTooSmall need); output = o }) (write_document s ws tr o)
        unfolding write_document fill unless
        write-small m =
            let z : room o < length (document_text s ws tr) = omega arith in
            simp (le-ltb limit (length s) h, ← et, k, ← eu, l, lt-ltb (room o) (length (document_text s ws tr)) z, ← en)

        pub write-fits : need ≤ r → 0 + length (document_text s ws tr) ≤ length o
        write-fits m = omega arith

        pub write_done : need ≤ r → {o' : List ℕ} {n : ℕ} → Put o 0 (document_text s ws tr) o' n
            → ◌≡◌ {A = Outcome} (record { answer = Ok n; output = o' }) (write_document s ws tr o)
        unfolding write_document fill unless
        write_done m p =
            let z : length (document_text s ws tr) ≤ room o = omega arith in
            let e : 0 + length (document_text s ws tr) ≡ length (document_text s ws tr) = omega arith in
            simp (le-ltb limit (length s) h, ← et, k, ← eu, l, le-ltb (room o) (length (document_text s ws tr)) z, p.next, p.text, e)

-- what was found of a document, by each of its checks
module _ (s ws : List ℕ) (tr : Span) where
  pub looked-past : any (passes_end s) (spans_of (rows_in ws) tr) ≡ true → Err SpanPastEnd ≡ looked s ws tr
  unfolding looked unless
  looked-past h = simp h

  module _ (h : any (passes_end s) (spans_of (rows_in ws) tr) ≡ false) where
    pub looked-ill : any (ill_span s) (spans_of (rows_in ws) tr) ≡ true → Err SpanNotUtf8 ≡ looked s ws tr
    unfolding looked unless
    looked-ill k = simp (h, k)

    pub looked-well : any (ill_span s) (spans_of (rows_in ws) tr) ≡ false → {n : ℕ} → n ≡ sat (length (document_text s ws tr)) → Ok n ≡ looked s ws tr
    unfolding looked unless
    looked-well k e = simp (h, k, e)

  -- and what it says of the document
  pub lawful : length s ≤ limit → (n : ℕ) → Ok n ≡ looked s ws tr → Lawful s ws tr n
  unfolding looked
  lawful l n e =
      let xs = spans_of (rows_in ws) tr in
      let a = unmet (any (passes_end s) xs) SpanPastEnd (span_not_utf8 s xs ∷ []) _ n (sym e) in
      let b = unmet (any (ill_span s) xs) SpanNotUtf8 [] _ n a.1 in
      record { short = l; within = a.0; well = b.0; long = sym (unless-same [] _ n b.1) }

short_enough : (s : List ℕ) → length s ≤ limit → {A : Type 0} (cs : List (Option Refusal)) (a : A) → unless (too_long s ∷ cs) a ≡ unless cs a
unfolding unless
short_enough s l cs a = simp (le-ltb limit (length s) l)

-- a refusal that was found is the answer
pub write-met : (s ws : List ℕ) (tr : Span) (o : List ℕ) → length s ≤ limit → (r : Refusal) → Err r ≡ looked s ws tr
    → ◌≡◌ {A = Outcome} (record { answer = Err r; output = o }) (write_document s ws tr o)
unfolding write_document fill looked
write-met s ws tr o l r e =
    let xs = spans_of (rows_in ws) tr in
    let t = document_text s ws tr in
    let small = too_small (room o) (length t) ∷ [] in
    let z = short_enough s l (past_end s xs ∷ span_not_utf8 s xs ∷ small) (length t) ∙ unless-refused (past_end s xs ∷ span_not_utf8 s xs ∷ []) small _ (length t) r (sym e) in
    sym (ap (λ (a : Answer ℕ). record { answer = a; output = output_after a o t }) z)
