-- Laws of the checks of a PBN record, as the loops go through its calls, its play and its names. (01: From PBN; Eight refusals)
-- Assumes nothing.
use Rattle.std.specs.Prelude.{Err, Ok}
use Prim.Native.Nat.{ℕ, ◌<◌, ◌≤◌}
use mathlib.Core.Path.{◌≡◌, refl, ap, sym, ◌∙◌}
use mathlib.Core.Bool.{Bool, true, false, ◌||◌, or-false}
use mathlib.Core.List.{List, [], ◌∷◌, map}
use lib.ListN.{length}
use lib.Dec.{ltb}
use borrow.Author.Tests.{lt-ltb, le-ltb, eq-eqb, ne_eqb}
use Rattle.lin_spec.specs.Base.{any, concat}
use Rattle.lin_spec.specs.Records.{limit}
use Rattle.lin_spec.specs.Refusals.{Answer, refuse_if, unless, passes_end, ill_span}
use Rattle.lin_spec.specs.Lent.{span_in}
use Rattle.lin_spec.specs.Pbn.{pbn, pbn_names, pbn_rows, raw_of, bad_entry, bad_call, bad_board_number, bad_pbn, raw_spans, name_spans, pbn_spans}
use Rattle.lin_spec.specs.Annotation.{note_spans}
use Rattle.lin_spec.specs.declared.Span.{Span}
use Rattle.lin_spec.specs.declared.PbnCall.{PbnCall}
use Rattle.lin_spec.specs.declared.PbnBoard.{PbnBoard}
use Rattle.lin_spec.specs.declared.Refusal.TheVariants.{TextTooLong, OutOfRange, SpanPastEnd, SpanNotUtf8}
use Rattle.lin_spec.proofs.Base.{any_append}
use Rattle.pbn_checks.specs.Checks.{pbn_checks, record_checked}

-- an entry of the play, by the two tests that are made of it
-- the spans of the calls and of the names, call by call and name by name
pub any-each : {A : Type 0} (f : Span → Bool) (g : A → List Span) (xs : List A) → any (λ x. any f (g x)) xs ≡ any f (concat (map g xs))
unfolding concat any
any-each f g [] = refl
any-each f g (x ∷ xs) = ap (λ (t : Bool). any f (g x) || t) (any-each f g xs) ∙ sym (any_append f (g x) (concat (map g xs)))

-- a raw annotation, by its flag
module _ (f : Span → Bool) (c : PbnCall) where
  pub raw-none : c.annotated ≡ 0 → false ≡ any f (span_in (raw_of c))
  unfolding any
  raw-none h = simp (eq-eqb c.annotated 0 h)

  pub raw-some : (c.annotated ≡ 0 → ⊥) → f c.annotation ≡ any f (span_in (raw_of c))
  unfolding any
  raw-some h = simp (ne_eqb c.annotated 0 h) (sym (or-false (f c.annotation)))

-- All spans: the names, the texts that may be absent, those of the calls and those of the notes

module _ (f : Span → Bool) (s : List ℕ) (b : PbnBoard) (ws ns : List ℕ) where
  abbrev all : Bool
  all = any f (pbn_spans (pbn s b ws [] ns))

  spans-any : all
      ≡ (any f (name_spans (pbn_names b))
      || (any f (span_in b.event)
      || (any f (span_in b.date) || (any f (span_in b.id) || (any f (raw_spans (pbn_rows ws)) || any f (note_spans ns))))))
  unfolding pbn_spans
  spans-any = simp any_append

  module _ (t : Bool) (et : t ≡ any f (name_spans (pbn_names b))) where
    pub in_names : t ≡ true → true ≡ all
    in_names h = sym (spans-any ∙ simp (← et, h))

    module _ (ht : t ≡ false) (u : Bool) (eu : u ≡ any f (span_in b.event)) where
      pub in_event : u ≡ true → true ≡ all
      in_event h = sym (spans-any ∙ simp (← et, ht, ← eu, h))

      module _ (hu : u ≡ false) (v : Bool) (ev : v ≡ any f (span_in b.date)) where
        pub in_date : v ≡ true → true ≡ all
        in_date h = sym (spans-any ∙ simp (← et, ht, ← eu, hu, ← ev, h))

        module _ (hv : v ≡ false) (w : Bool) (ew : w ≡ any f (span_in b.id)) where
          pub in_id : w ≡ true → true ≡ all
          in_id h = sym (spans-any ∙ simp (← et, ht, ← eu, hu, ← ev, hv, ← ew, h))

          module _ (hw : w ≡ false) (x : Bool) (ex : x ≡ any f (raw_spans (pbn_rows ws))) where
            pub in_raws : x ≡ true → true ≡ all
            in_raws h = sym (spans-any ∙ simp (← et, ht, ← eu, hu, ← ev, hv, ← ew, hw, ← ex, h))

            pub in_notes : x ≡ false → (y : Bool) → y ≡ any f (note_spans ns) → y ≡ all
            in_notes h y ey = sym (spans-any ∙ simp (← et, ht, ← eu, hu, ← ev, hv, ← ew, hw, ← ex, h, ← ey))

-- A number outside its range: the board's, or else one of a call, or else one of the play

module _ (a b c : Bool) (h : a ≡ false) where
  pub number-calls : b ≡ true → true ≡ (a || (b || c))
  number-calls k = sym (simp (h, k))

  pub number-plays : b ≡ false → (t : Bool) → t ≡ c → t ≡ (a || (b || c))
  number-plays k t e = e ∙ sym (simp (h, k))

-- The verdict, by the tests that led there

-- the four checks, by what each of them says
four : (long out past ill : Bool) → Answer Unit
unfolding unless
four a b c d = unless (refuse_if a TextTooLong ∷ refuse_if b OutOfRange ∷ refuse_if c SpanPastEnd ∷ refuse_if d SpanNotUtf8 ∷ []) tt

module _ (other : Bool) (s : List ℕ) (b : PbnBoard) (ws ps ns : List ℕ) where
  abbrev bad : Bool
  bad = bad_board_number b.number || (any bad_call (pbn_rows ws) || any bad_entry ps)

  -- the cards name no span
  abbrev spans : List Span
  spans = pbn_spans (pbn s b ws [] ns)

  abbrev verdict : Answer Unit
  verdict = record_checked other (pbn s b ws ps ns)

  is-four : (x y z w : Bool) → x ≡ ltb limit (length s) → y ≡ (other || bad) → z ≡ any (passes_end s) spans → w ≡ any (ill_span s) spans → four x y z w ≡ verdict
  unfolding pbn_checks bad_pbn pbn_spans four
  is-four x y z w ex ey ez ew = λ i. four (ex i) (ey i) (ez i) (ew i)

  pub check_long : limit < length s → Err TextTooLong ≡ verdict
  unfolding four unless
  check_long h = is-four true (other || bad) (any (passes_end s) spans) (any (ill_span s) spans) (sym (lt-ltb limit (length s) h)) refl refl refl

  module _ (h : length s ≤ limit) where
    abbrev short : false ≡ ltb limit (length s)
    short = sym (le-ltb limit (length s) h)

    pub check_other : other ≡ true → Err OutOfRange ≡ verdict
    unfolding four unless
    check_other o = is-four false true (any (passes_end s) spans) (any (ill_span s) spans) short (sym (ap (λ (t : Bool). t || bad) o)) refl refl

    module _ (o : other ≡ false) (t : Bool) (et : t ≡ bad) where
      number : (u : Bool) → t ≡ u → u ≡ (other || bad)
      number u k = sym k ∙ et ∙ sym (ap (λ (v : Bool). v || bad) o)

      pub check_number : t ≡ true → Err OutOfRange ≡ verdict
      unfolding four unless
      check_number k = is-four false true (any (passes_end s) spans) (any (ill_span s) spans) short (number true k) refl refl

      module _ (k : t ≡ false) (u : Bool) (eu : u ≡ any (passes_end s) spans) where
        pub check_past : u ≡ true → Err SpanPastEnd ≡ verdict
        unfolding four unless
        check_past l = is-four false false true (any (ill_span s) spans) short (number false k) (sym l ∙ eu) refl

        module _ (l : u ≡ false) (w : Bool) (ew : w ≡ any (ill_span s) spans) where
          pub check_ill : w ≡ true → Err SpanNotUtf8 ≡ verdict
          unfolding four unless
          check_ill m = is-four false false false true short (number false k) (sym l ∙ eu) (sym m ∙ ew)

          pub check_good : w ≡ false → Ok tt ≡ verdict
          unfolding four unless
          check_good m = is-four false false false false short (number false k) (sym l ∙ eu) (sym m ∙ ew)
