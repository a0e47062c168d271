-- Laws of calls one at a time: the next mb, the annotation after it, and a bid without its exclamation marks. (01: Board, mb and an)
-- Assumes nothing.
use Rattle.std.specs.Prelude.{Option, None, Some}
use Prim.Native.Nat.{ℕ, suc, ◌+◌, ◌≤◌}
use native.Mathlib.Nat.{add-zero}
use native.Mathlib.Omega.{arith}
use mathlib.Core.Path.{◌≡◌, refl, ap, sym, ◌∙◌}
use mathlib.Core.Bool.{Bool, true, false, ◌&&◌, and-true, and-false, and_assoc}
use mathlib.Core.List.{List, [], ◌∷◌, ◌++◌}
use lib.ListN.{length}
use lib.Dec.{eqb, ltb, leb-zero, leb-suc-suc}
use borrow.Author.Tests.{eq-eqb, ne_eqb}
use Rattle.lin_spec.specs.Base.{pick, ascii, all}
use Rattle.lin_spec.specs.White.{is_command}
use Rattle.lin_spec.specs.Board.{CallOf, call_of, only, without_end, ends_in, annotated}
use Rattle.lin_spec.specs.Records.{span, end_of, bytes_at}
use Rattle.lin_spec.specs.Reading.{span_text, stream, flag, annotation_words, call_words}
use Rattle.lin_spec.proofs.Records.{part_length}
use Rattle.lin_spec.proofs.Reading.{part_most}
use Rattle.lin_spec.specs.declared.Span.{Span}
use Rattle.document_commands.specs.Steps.{TokenAt}
use Rattle.lin_spec.specs.Lent.{is_present, place_of, row_of}
use Rattle.board_loop.specs.Calls.{row_words, with, calls_after, calls_from}
use Rattle.document_commands.proofs.StepLaws.{command-is}

-- at the end of the tokens
pub after-end : (s : List ℕ) (at : ℕ) (c : CallOf Span) (a : Option Span) → stream s at ≡ [] → calls_after s c a (stream s at) ≡ with c a ∷ calls_from s (stream s at)
unfolding calls_after calls_from
after-end s at c a e = simp e

pub from_end : (s : List ℕ) (at : ℕ) → stream s at ≡ [] → calls_from s (stream s at) ≡ []
unfolding calls_from
from_end s at e = simp e

-- at a token
module _ (s : List ℕ) (at k : ℕ) (v : Span) (n : ℕ) (t : TokenAt s at k v n) where
  mb_is : is_command t.command (ascii "mb") ≡ eqb k 1
  mb_is = command-is s at k v n t 1 (omega arith)

  an_is : is_command t.command (ascii "an") ≡ eqb k 2
  an_is = command-is s at k v n t 2 (omega arith)

  module _ (h : k ≡ 1) where
    is_mb : is_command t.command (ascii "mb") ≡ true
    is_mb = mb_is ∙ eq-eqb k 1 h

    pub from_mb : calls_from s (stream s at) ≡ calls_after s (call_of (span_text s) v) None (stream s n)
    unfolding calls_from
    from_mb = simp (t.front, is_mb)

    pub after_mb : (c : CallOf Span) (a : Option Span) → calls_after s c a (stream s at) ≡ with c a ∷ calls_from s (stream s at)
    unfolding calls_after calls_from
    after_mb c a = simp (t.front, is_mb)

  module _ (h : k ≡ 1 → ⊥) where
    no_mb : is_command t.command (ascii "mb") ≡ false
    no_mb = mb_is ∙ ne_eqb k 1 h

    pub from-other : calls_from s (stream s n) ≡ calls_from s (stream s at)
    unfolding calls_from
    from-other = simp (t.front, no_mb)

    pub after-other : (c : CallOf Span) (a a' : Option Span) → a' ≡ pick (eqb k 2) (Some v) a → calls_after s c a' (stream s n) ≡ calls_after s c a (stream s at)
    unfolding calls_after
    after-other c a a' e = rw e (simp (t.front, no_mb, an_is))

-- A bid without the exclamation marks at its end

only_snoc : (c : ℕ) (x : List ℕ) (b : ℕ) → only c (x ++ (b ∷ [])) ≡ (only c x && eqb b c)
unfolding all
only_snoc c [] b = and-true (eqb b c)
only_snoc c (a ∷ x) b = ap (λ (t : Bool). eqb a c && t) (only_snoc c x b) ∙ sym (and_assoc (eqb a c) (only c x) (eqb b c))

without_snoc : (c : ℕ) (x : List ℕ) (b : ℕ) → without_end c (x ++ (b ∷ [])) ≡ pick (eqb b c) (without_end c x) (x ++ (b ∷ []))
unfolding without_end all
without_snoc c [] b = go (eqb b c)
  where
    go : (t : Bool) → pick (t && true) [] (b ∷ []) ≡ pick t [] (b ∷ [])
    go true = refl
    go false = refl
without_snoc c (a ∷ x) b = go (eqb b c) (only_snoc c x b) (without_snoc c x b)
  where
    go : (t : Bool) → only c (x ++ (b ∷ [])) ≡ (only c x && t) → without_end c (x ++ (b ∷ [])) ≡ pick t (without_end c x) (x ++ (b ∷ []))
        → pick (eqb a c && only c (x ++ (b ∷ []))) [] (a ∷ without_end c (x ++ (b ∷ []))) ≡ pick t (pick (eqb a c && only c x) [] (a ∷ without_end c x)) (a ∷ (x ++ (b ∷ [])))
    go true e f = simp (e, f, and-true)
    go false e f = simp (e, f, and-false)

-- going back over the marks from the end
module _ (s x : List ℕ) (b : ℕ) (e : s ≡ x ++ (b ∷ [])) where
  pub mark_off : b ≡ 0x21 → without_end 0x21 x ≡ without_end 0x21 s
  mark_off h = sym (ap (without_end 0x21) e ∙ without_snoc 0x21 x b ∙ simp (eq-eqb b 0x21 h))

  pub mark-none : (b ≡ 0x21 → ⊥) → s ≡ without_end 0x21 s
  mark-none h = sym (ap (without_end 0x21) e ∙ without_snoc 0x21 x b ∙ simp (ne_eqb b 0x21 h) (sym e))

pub nothing-left : (s : List ℕ) → length s ≡ 0 → s ≡ without_end 0x21 s
unfolding without_end
nothing-left [] h = refl
nothing-left (b ∷ s) h = absurd (let z : ⊥ = omega arith in z)

-- what is left is shorter exactly where the value ends in the mark
pub ends_shorter : (c : ℕ) (s : List ℕ) → ends_in c s ≡ ltb (length (without_end c s)) (length s)
unfolding ends_in without_end all
ends_shorter c [] = refl
ends_shorter c (b ∷ []) = go (eqb b c)
  where
    go : (t : Bool) → t ≡ ltb (length (pick (t && true) [] (b ∷ []))) 1
    go true = refl
    go false = refl
ends_shorter c (b ∷ d ∷ s) = go (eqb b c) (only c (d ∷ s)) refl (ends_shorter c (d ∷ s))
  where
    go : (t u : Bool) → only c (d ∷ s) ≡ u → ends_in c (d ∷ s) ≡ ltb (length (without_end c (d ∷ s))) (suc (length s))
        → ends_in c (d ∷ s) ≡ ltb (length (pick (t && u) [] (b ∷ without_end c (d ∷ s)))) (suc (suc (length s)))
    go true true e ih = (simp e at ih) ∙ leb-suc-suc 0 (length s) ∙ leb-zero (length s) ∙ sym (leb-suc-suc 0 (suc (length s)) ∙ leb-zero (suc (length s)))
    go false true e ih = ih ∙ sym (leb-suc-suc (suc (length (without_end c (d ∷ s)))) (suc (length s)))
    go true false e ih = ih ∙ sym (leb-suc-suc (suc (length (without_end c (d ∷ s)))) (suc (length s)))
    go false false e ih = ih ∙ sym (leb-suc-suc (suc (length (without_end c (d ∷ s)))) (suc (length s)))

-- the row of a call, by what was counted
pub call-row : (s : List ℕ) (v : Span) (n t : ℕ) → end_of v ≤ length s → n ≡ length (without_end 0x21 (bytes_at s v)) → t ≡ flag (ltb n v.len) → (o : Option Span) {p : Option Span} → o ≡ p
    → record { bid = span v.start n; alerted = t; annotated = is_present o; annotation = place_of o } ≡ row_of (with (call_of (span_text s) v) p)
call-row s v n t w en et o e =
    let l : length (bytes_at s v) ≡ v.len = part_length s v.start v.len w in
    let a : t ≡ flag (ends_in 0x21 (bytes_at s v)) = et ∙ sym (ap flag (ends_shorter 0x21 (bytes_at s v) ∙ ap (λ (k : ℕ). ltb k (length (bytes_at s v))) (sym en) ∙ ap (λ (k : ℕ). ltb n k) l)) in
    let b : v.start ≡ v.start + 0 = sym (add-zero v.start) in
    λ i. record { bid = span (b i) (en i); alerted = a i; annotated = is_present (e i); annotation = place_of (e i) }

pub bid-short : (s : List ℕ) (v : Span) (x : List ℕ) (n : ℕ) → n ≤ length x → x ≡ bytes_at s v → n ≤ v.len
bid-short s v x n h e = let a = ap length e in let b = part_most s v.start v.len in omega arith

-- an annotation is put on a call, and no call comes or goes
pub annotated-length : {A : Type 0} (v : A) (cs : List (CallOf A)) → length (annotated v cs) ≡ length cs
unfolding annotated
annotated-length v [] = refl
annotated-length v (c ∷ []) = refl
annotated-length v (c ∷ d ∷ cs) = ap suc (annotated-length v (d ∷ cs))

-- the words of a call's row
pub words_cons : (c : CallOf Span) (cs : List (CallOf Span)) → call_words (c ∷ cs) ≡ row_words (row_of c) ++ call_words cs
unfolding call_words row_words
words_cons c cs = go c.annotation
  where
    go : (o : Option Span)
        → c.bid.start ∷ c.bid.len ∷ flag c.alerted ∷ (annotation_words o ++ call_words cs)
        ≡ c.bid.start ∷ c.bid.len ∷ flag c.alerted ∷ is_present o ∷ (place_of o).start ∷ (place_of o).len ∷ call_words cs
    go None = refl
    go (Some x) = refl
