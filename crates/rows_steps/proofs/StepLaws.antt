-- Laws of reading a board into rows of calls as structs: one call at a time, and the heading. (01: Board; File)
-- Assumes nothing.
use Rattle.std.specs.Prelude.{Option, None, Some, Err, Ok, Result}
use Prim.Native.Nat.{ℕ, ◌≤◌, ◌<◌, ◌^◌}
use native.Mathlib.Omega.{arith}
use mathlib.Core.Path.{◌≡◌, refl, ap, sym, subst, ◌∙◌}
use mathlib.Core.Bool.{Bool, true, false}
use mathlib.Core.List.{List, [], ◌∷◌}
use lib.ListN.{length, take, drop, get_or, length-take}
use lib.Seq.{take_all}
use lib.Dec.{ltb}
use borrow.Author.Tests.{lt-ltb, le-ltb}
use Rattle.lin_spec.specs.Board.{CallOf, BoardOf}
use Rattle.lin_spec.specs.Refusals.{Answer, unless, too_long, not_utf8}
use Rattle.lin_spec.specs.Document.{open_text}
use Rattle.lin_spec.specs.Reading.{stream, parse_spans, heading_of}
use Rattle.lin_spec.specs.Lent.{call_in, row_of}
use Rattle.lin_spec.specs.declared.Span.{Span}
use Rattle.lin_spec.specs.declared.Call.{Call}
use Rattle.lin_spec.specs.declared.Heading.{Heading}
use Rattle.lin_spec.specs.declared.Refusal.{Refusal}
use Rattle.lin_spec.specs.declared.Refusal.TheVariants.{TooFewRows}
use Rattle.lin_spec.specs.declared.RowKind.TheVariants.{Calls, Cards}
use Rattle.lin_spec.proofs.Checks.{unless-refused, unless-passed}
use Rattle.lin_spec.proofs.Document.{opened}
use Rattle.output.specs.Put.{Room, Put}
use Rattle.document.specs.Steps.{opened_of}
use Rattle.document.specs.declared.tokens.Cursor.{Cursor}
use Rattle.board_loop.specs.Calls.{calls_from, CallAt, GivesCall}
use Rattle.board_loop.specs.Head.{board_at}
use Rattle.rows.specs.declared.CallRow.{CallRow}
use Rattle.rows_steps.specs.declared.steps.Headed.{Headed}
use Rattle.rows.specs.Rows.{row_in, empty_row}
use Rattle.rows_steps.specs.Steps.{few_structs, text_answer, StepsTo, HeadsBy}

-- A text up to a place

pub cut-is : (s : List ℕ) (stop : ℕ) → stop ≤ length s → stop ≡ length (take stop s)
cut-is s stop h = omega (arith, length-take stop s)

pub cut_short : (s : List ℕ) (stop : ℕ) → length s < 2 ^ 32 → length (take stop s) < 2 ^ 32
cut_short s stop h = omega (arith, length-take stop s)

-- One call

by_parts : CallOf Span → Bool → Option Span → CallOf Span
by_parts c t o = record { bid = c.bid; alerted = t; annotation = o }

-- the row of a call's six numbers is the row of the call
pub row_back : (c : CallOf Span) → row_in (call_in (row_of c)) ≡ row_in c
unfolding by_parts
row_back c = go c.alerted c.annotation
  where
    go : (t : Bool) (o : Option Span) → row_in (call_in (row_of (by_parts c t o))) ≡ row_in (by_parts c t o)
    go true None = refl
    go true (Some x) = refl
    go false None = refl
    go false (Some x) = refl

nil_cons : {A : Type 0} {P : Type 0} (x : A) (xs : List A) → [] ≡ x ∷ xs → P
nil_cons x xs e = absurd (let z : ⊥ = (let h = ap length e in omega arith) in z)

module _ (s : List ℕ) (at : ℕ) (v : Option (Call × Cursor)) (g : GivesCall s at v) where
  pub step_found : (x : Call) (n : Cursor) → v ≡ Some (x, n) → (row : CallRow) → row ≡ row_in (call_in x) → StepsTo s at (row, n.at)
  step_found x n e row f =
      let d : CallAt s at x n.at = subst (GivesCall s at) e g in
      record {
        next = λ c cs h.
            let p : d.call ∷ calls_from s (stream s n.at) ≡ c ∷ cs = sym d.front ∙ h in
            let one : d.call ≡ c = ap (λ (l : List (CallOf Span)). get_or l 0 c) p in
            let same : row ≡ row_in c = f ∙ ap (λ (y : Call). row_in (call_in y)) d.row ∙ row_back d.call ∙ ap row_in one in
            (same, ap (λ (l : List (CallOf Span)). drop 1 l) p);
        none = λ h. nil_cons d.call (calls_from s (stream s n.at)) (sym h ∙ d.front);
      }

  pub step_none : v ≡ None → StepsTo s at (empty_row, at)
  step_none e =
      let left : calls_from s (stream s at) ≡ [] = subst (GivesCall s at) e g in
      record { next = λ c cs h. nil_cons c cs (sym left ∙ h); none = λ h. refl }

-- The heading, with its cards stored

-- a refusal
pub heads_refused : (s : List ℕ) (a : Answer (BoardOf Span)) (rows : ℕ) (cards : List ℕ) (r : Refusal) → a ≡ Err r → (h : Answer Headed) → h ≡ Err r → HeadsBy s a rows cards h cards
heads_refused s a rows cards r e h f = subst (λ (x : Answer Headed). HeadsBy s a rows cards x cards) (sym f) (e, refl)

-- the same of another answer that is this one
pub heads_same : (s : List ℕ) (a b : Answer (BoardOf Span)) (rows : ℕ) (cards : List ℕ) (h : Answer Headed) (cards' : List ℕ) → a ≡ b → HeadsBy s a rows cards h cards' → HeadsBy s b rows cards h cards'
heads_same s a b rows cards h cards' e g = subst (λ (x : Answer (BoardOf Span)). HeadsBy s x rows cards h cards') e g

-- the checks of rows and cards
module _ (s : List ℕ) (start stop rows : ℕ) (cards : List ℕ) (h : Heading) (e : h ≡ heading_of (board_at (take stop s) start)) where
  abbrev b : BoardOf Span
  b = board_at (take stop s) start

  abbrev answer : Answer (BoardOf Span)
  answer = unless (few_structs b rows cards) b

  calls-long : h.calls ≡ length b.calls
  calls-long = ap (λ (x : Heading). x.calls) e

  cards-long : h.cards ≡ length b.play
  cards-long = ap (λ (x : Heading). x.cards) e

  pub few-rows : rows < h.calls → HeadsBy s answer rows cards (Err (TooFewRows Calls h.calls)) cards
  unfolding unless
  few-rows k = (rw calls-long (simp (lt-ltb rows (length b.calls) (rw calls-long at k))), refl)

  module _ (k : h.calls ≤ rows) where
    enough : ltb rows (length b.calls) ≡ false
    enough = le-ltb rows (length b.calls) (rw calls-long at k)

    pub few-places : length cards < h.cards → HeadsBy s answer rows cards (Err (TooFewRows Cards h.cards)) cards
    unfolding unless
    few-places l = (rw cards-long (simp (enough, lt-ltb (length cards) (length b.play) (rw cards-long at l))), refl)

    module _ (l : h.cards ≤ length cards) where
      pub places : Room cards 0 b.play
      places = record { room = omega (arith, cards-long) }

      taken_both : answer ≡ Ok b
      unfolding unless
      taken_both = simp (enough, le-ltb (length cards) (length b.play) (rw cards-long at l))

      pub heads_read : (cards' : List ℕ) {n : ℕ} → Put cards 0 b.play cards' n → stop ≤ length s → length s < 2 ^ 32
          → HeadsBy s answer rows cards (Ok (record { heading = h; start = start; stop = stop })) cards'
      heads_read cards' p w z = (
        b,
        (
          taken_both,
          record {
            heading = e;
            stored = p.text;
            calls = take_all h.calls b.calls (omega (arith, calls-long));
            fit = k;
            many = omega (arith, calls-long);
            within = (w, z);
          },
        ),
      )

-- The entries, by the answer of `open`

whole : (s : List ℕ) → take (length s) s ≡ s
whole s = take_all (length s) s (omega arith)

module _ (s : List ℕ) (o : Result Cursor Refusal) (e : opened_of o ≡ open_text s) (rows : ℕ) (cards : List ℕ) (h : Answer Headed) where
  pub text-refused : (r : Refusal) → o ≡ Err r → h ≡ Err r → HeadsBy s (text_answer s rows cards) rows cards h cards
  unfolding open_text parse_spans
  text-refused r f g = heads_refused s (text_answer s rows cards) rows cards r (unless-refused (too_long s ∷ not_utf8 s ∷ []) (few_structs (board_at s 0) rows cards) 0 (board_at s 0) r (sym e ∙ ap opened_of f)) h g

  module _ (c : Cursor) (f : o ≡ Ok c) where
    pub text-short : (0 ≤ length s) × (length s ≤ length s) × (length s < 2 ^ 32)
    text-short = let z = (opened s (sym e ∙ ap opened_of f)).short in (omega arith, omega arith, omega arith)

    pub text-read : (cards' : List ℕ) → HeadsBy s (unless (few_structs (board_at (take (length s) s) 0) rows cards) (board_at (take (length s) s) 0)) rows cards h cards' → HeadsBy s (text_answer s rows cards) rows cards h cards'
    unfolding open_text parse_spans
    text-read cards' g =
        heads_same s _ _ rows cards h cards'
        (ap (λ (t : List ℕ). unless (few_structs (board_at t 0) rows cards) (board_at t 0)) (whole s)
        ∙ sym (unless-passed (too_long s ∷ not_utf8 s ∷ []) (few_structs (board_at s 0) rows cards) 0 c.at (board_at s 0) (sym e ∙ ap opened_of f)))
        g
