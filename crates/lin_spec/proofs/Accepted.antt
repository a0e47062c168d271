-- A call that no refusal meets has a board that reads back: its cards are cards and its texts are UTF-8. And what a reader gives, lent again, means the
-- board that was read. (01: Eight refusals; Writer; Board)
-- Assumes nothing.
use Rattle.std.specs.Prelude.{Option, None, Some, Err, Ok}
use Prim.Native.Nat.{ℕ, suc, ◌+◌, ◌*◌, ◌<◌}
use native.Mathlib.Omega.{arith}
use mathlib.Core.Path.{◌≡◌, refl, ap, sym, ◌∙◌}
use mathlib.Core.Bool.{Bool, true, false, not, false≢true}
use mathlib.Core.List.{List, [], ◌∷◌, ◌++◌, map}
use lib.ListN.{length, length-map}
use lib.Dec.{ltb}
use borrow.Author.Tests.{ltb-false, le-ltb}
use Rattle.lin_spec.specs.Base.{All, any}
use Rattle.lin_spec.specs.Records.{bytes_at}
use Rattle.lin_spec.specs.Refusals.{Answer, refuse_if, unless, ill_span, too_small, sat}
use Rattle.lin_spec.specs.Output.{Outcome, room, output_after, fill}
use Rattle.lin_spec.specs.Utf8.{utf8}
use Rattle.lin_spec.specs.Board.{CallOf, BoardOf, map_option, map_call, map_board, Present, EachText}
use Rattle.lin_spec.specs.Reading.{heading_of, flag, annotation_words, call_words}
use Rattle.lin_spec.specs.Append.{plain, written_form, extended, appended, write_lin}
use Rattle.lin_spec.specs.Lent.{Lent, lent_checks, lent, call_rows, rows_of, call_in, lent_board, meaning, span_in, call_spans, lent_spans, bad_cards, bad_number}
use Rattle.lin_spec.specs.declared.Span.{Span}
use Rattle.lin_spec.specs.declared.Refusal.{Refusal}
use Rattle.lin_spec.specs.declared.Refusal.TheVariants.{OutputTooSmall}
use Rattle.lin_spec.proofs.Base.{or_none}
use Rattle.lin_spec.proofs.Reading.{board_eq}
use Rattle.lin_spec.specs.ThirdDemand.{Typed}
use Rattle.lin_spec.proofs.Sound.{Valid}
use Rattle.lin_spec.proofs.Wellformed.{Utf8}

-- Tests that hold of no element

pub none_any : {A : Type 0} (f : A → Bool) (xs : List A) → any f xs ≡ false → All (λ (x : A). f x ≡ false) xs
unfolding any
none_any f [] h = tt
none_any f (x ∷ xs) h = let k = or_none (f x) (any f xs) h in (k.0, none_any f xs k.1)

pub all_left : {A : Type 0} (P : A → Type 0) (x y : List A) → All P (x ++ y) → All P x
all_left P [] y h = tt
all_left P (a ∷ x) y h = (h.0, all_left P x y h.1)

pub all_right : {A : Type 0} (P : A → Type 0) (x y : List A) → All P (x ++ y) → All P y
all_right P [] y h = h
all_right P (a ∷ x) y h = all_right P x y h.1

-- Valid

cards-within : (cs : List ℕ) → bad_cards cs ≡ false → All (λ (c : ℕ). c < 52) cs
unfolding any
cards-within [] h = tt
cards-within (c ∷ cs) h =
    let k = or_none (ltb 51 c) (any (ltb 51) cs) h in
    let l = ltb-false 51 c k.0 in
    (omega arith, cards-within cs k.1)

pub accepted_valid : (x : Lent) → Typed x → bad_number x ≡ false → Valid (meaning x)
unfolding meaning map_board lent_board bad_number
accepted_valid x t h =
    record {
      names = length-map x.board.names (bytes_at x.text) ∙ t.names;
      deal = t.counts;
      cards = cards-within x.cards (or_none (bad_cards x.cards) _ h).0;
      claim = t.claim;
    }

-- UTF-8

module _ (s : List ℕ) where
  abbrev Well : Span → Type 0
  Well x = ill_span s x ≡ false

  well-utf8 : (x : Span) → Well x → Utf8 (bytes_at s x)
  well-utf8 x h = go (utf8 (bytes_at s x)) h
    where
      go : (t : Bool) → not t ≡ false → t ≡ true
      go true h = refl
      go false h = absurd (false≢true (sym h))

  pub none-ill : (xs : List Span) → any (ill_span s) xs ≡ false → All (λ (x : Span). Utf8 (bytes_at s x)) xs
  none-ill xs h = go xs (none_any (ill_span s) xs h)
    where
      go : (ys : List Span) → All Well ys → All (λ (x : Span). Utf8 (bytes_at s x)) ys
      go [] k = tt
      go (x ∷ ys) k = (well-utf8 x k.0, go ys k.1)

  well-names : (xs : List Span) → All Well xs → All Utf8 (map (bytes_at s) xs)
  well-names [] h = tt
  well-names (x ∷ xs) h = (well-utf8 x h.0, well-names xs h.1)

  well_option : (o : Option Span) → All Well (span_in o) → Present Utf8 (map_option (bytes_at s) o)
  well_option None h = tt
  well_option (Some x) h = well-utf8 x h.0

  well-calls : (cs : List (CallOf Span)) → All Well (call_spans cs)
      → All (λ (c : CallOf (List ℕ)). Utf8 c.bid × Present Utf8 c.annotation) (map (map_call (bytes_at s)) cs)
  unfolding call_spans
  well-calls [] h = tt
  well-calls (c ∷ cs) h = (
    (well-utf8 c.bid h.0, well_option c.annotation (all_left Well (span_in c.annotation) (call_spans cs) h.1)),
    well-calls cs (all_right Well (span_in c.annotation) (call_spans cs) h.1),
  )

pub accepted-utf8 : (x : Lent) → any (ill_span x.text) (lent_spans x) ≡ false → EachText Utf8 (meaning x)
unfolding meaning map_board lent_spans
accepted-utf8 x e =
    let s = x.text in
    let b = lent_board x in
    let P = Well s in
    let h = none_any (ill_span s) (lent_spans x) e in
    let h₁ = all_right P b.names _ h in
    let h₂ = all_right P (span_in b.title) _ h₁ in
    let h₃ = all_right P (span_in b.room) _ h₂ in
    record {
      names = well-names s b.names (all_left P b.names _ h);
      title = well_option s b.title (all_left P (span_in b.title) _ h₁);
      room = well_option s b.room (all_left P (span_in b.room) _ h₂);
      header = well_option s b.header (all_left P (span_in b.header) _ h₃);
      calls = well-calls s b.calls (all_right P (span_in b.header) _ h₃);
    }

-- What a reader gives, lent again

rows_back : (cs : List (CallOf Span)) → map call_in (call_rows (call_words cs)) ≡ cs
unfolding call_words rows_of
rows_back [] = refl
rows_back (c ∷ cs) = go c.alerted c.annotation (rows_back cs)
  where
    go : (t : Bool) (o : Option Span) → map call_in (call_rows (call_words cs)) ≡ cs
        → map call_in (call_rows (c.bid.start ∷ c.bid.len ∷ flag t ∷ (annotation_words o ++ call_words cs))) ≡ record { bid = c.bid; alerted = t; annotation = o } ∷ cs
    go true None e = ap (λ (r : List (CallOf Span)). record { bid = c.bid; alerted = true; annotation = None } ∷ r) e
    go true (Some x) e = ap (λ (r : List (CallOf Span)). record { bid = c.bid; alerted = true; annotation = Some x } ∷ r) e
    go false None e = ap (λ (r : List (CallOf Span)). record { bid = c.bid; alerted = false; annotation = None } ∷ r) e
    go false (Some x) e = ap (λ (r : List (CallOf Span)). record { bid = c.bid; alerted = false; annotation = Some x } ∷ r) e

pub words-length : (cs : List (CallOf Span)) → length (call_words cs) ≡ length cs * 6
unfolding call_words
words-length [] = refl
words-length (c ∷ cs) = go c.annotation (words-length cs)
  where
    go : (o : Option Span) → length (call_words cs) ≡ length cs * 6 → suc (suc (suc (length (annotation_words o ++ call_words cs)))) ≡ suc (length cs) * 6
    go None e = omega arith
    go (Some x) e = omega arith

option_back : (o : Option Span) → o ≡ o
option_back None = refl
option_back (Some x) = refl

claim_back : (o : Option ℕ) → o ≡ o
claim_back None = refl
claim_back (Some n) = refl

pub lent_back : (t : List ℕ) (b : BoardOf Span) → lent_board (lent t (heading_of b).board (call_words b.calls) b.play) ≡ b
unfolding lent_board
lent_back t b = board_eq refl refl refl (option_back b.title) (option_back b.room) (option_back b.header) (rows_back b.calls) refl (claim_back b.claim)

-- `write_lin` "from the first byte": an append after no used byte fills the output and gives the length

pub write_fills : (x : Lent) (o : List ℕ) → write_lin x o ≡ fill (lent_checks false x ++ (too_small (room o) (length (written_form (plain x))) ∷ [])) o (written_form (plain x))
unfolding appended fill
write_fills x o =
    let s = written_form (plain x) in
    let n : ltb (room o) 0 ≡ false = le-ltb (room o) 0 (omega arith) in
    let z : 0 + length s ≡ length s = omega arith in
    let checks : Bool → ℕ → List (Option Refusal) = λ t k. lent_checks t x ++ (refuse_if (ltb (room o) k) (OutputTooSmall (sat (length s))) ∷ []) in
    let outcome : Answer ℕ → Outcome = λ a. record { answer = a; output = output_after a o s } in
    go (unless (checks (ltb (room o) 0) (0 + length s)) (0 + length s)) ∙ ap (λ (t : Bool). outcome (unless (checks t (0 + length s)) (0 + length s))) n ∙ ap (λ (k : ℕ). outcome (unless (checks false k) k)) z
  where
    go : (a : Answer ℕ) → ◌≡◌ {A = Outcome} (record { answer = a; output = extended a o 0 (written_form (plain x)) }) (record { answer = a; output = output_after a o (written_form (plain x)) })
    go (Err r) = refl
    go (Ok n) = refl
