-- Laws of a lent board: the calls of its rows, the spans that it names, the checks. (01: Records; Eight refusals)
-- Assumes nothing.
use Rattle.std.specs.Prelude.{Option, None, Some, Err, Ok, Result}
use Prim.Native.Nat.{ℕ, suc, ◌+◌, ◌/◌, ◌≤◌, ◌<◌}
use native.Mathlib.Numerals.{add-one}
use native.Mathlib.Omega.{arith}
use mathlib.Core.Path.{◌≡◌, refl, ap, sym, ◌∙◌}
use mathlib.Core.Bool.{Bool, true, false, ◌&&◌, ◌||◌, not, or_assoc, or-false}
use mathlib.Core.List.{List, [], ◌∷◌, ◌++◌, map}
use lib.ListN.{length, get_or, drop, drop_of_length-le}
use lib.Seq.{drop-cons}
use Rattle.std.specs.List.{list_any}
use Rattle.std.specs.Simd.{first_chunks}
use lib.Dec.{eqb}
use borrow.Author.Tests.{eq-eqb, ne_eqb, lt-ltb, le-ltb, ltb-false}
use Rattle.lin_spec.specs.Base.{pick, any}
use Rattle.lin_spec.specs.Records.{limit}
use Rattle.lin_spec.specs.Refusals.{unless, passes_end, ill_span}
use Rattle.lin_spec.specs.Utf8.{longest}
use Rattle.lin_spec.specs.Lent.{rows_of, call_row, call_rows, call_in, Lent, lent, lent_board, span_in, call_spans, lent_spans, bad_flag, bad_cards, bad_number, lent_checks}
use Rattle.lin_spec.specs.declared.Span.{Span}
use Rattle.lin_spec.specs.declared.Call.{Call}
use Rattle.lin_spec.specs.declared.Board.{Board}
use Rattle.lin_spec.specs.declared.Refusal.{Refusal}
use Rattle.lin_spec.specs.declared.Refusal.TheVariants.{TextTooLong, OutOfRange, SpanPastEnd, SpanNotUtf8}
use Rattle.lin_spec.proofs.Base.{or_none, any_append}
use Rattle.lin_spec.proofs.Checks.{unmet, unless-refused, unless-passed}
use Rattle.text.proofs.IndexLaws.{indexed_first}
use Rattle.board_lent.specs.Calls.{of_row, spans_of_call}
use Rattle.board_lent.specs.declared.heads.Head.{Head}
use Rattle.board_lent.specs.declared.checks.Bounds.{Bounds}
use Rattle.board_lent.specs.Heads.{board_of, head_spans}
use Rattle.board_lent.specs.Checks.{checked, amiss, Started, RowsBounded, Bounded}

-- Whether a test holds of an element

-- the library's word for it
pub any_is : {A : Type 0} (f : A → Bool) (xs : List A) → list_any f xs ≡ any f xs
unfolding any
any_is f [] = refl
any_is f (x ∷ xs) = ap (λ (t : Bool). f x || t) (any_is f xs)

any-map : {A B : Type 0} (f : A → B) (p : B → Bool) (xs : List A) → any p (map f xs) ≡ any (λ x. p (f x)) xs
unfolding any
any-map f p [] = refl
any-map f p (x ∷ xs) = ap (λ (t : Bool). p (f x) || t) (any-map f p xs)

-- The rows, of any kind

module _ {A : Type 0} (f : ℕ → ℕ → ℕ → ℕ → ℕ → ℕ → A) where
  -- how many there are
  pub rows-many : (ws : List ℕ) → length (rows_of f ws) ≡ length ws / 6
  unfolding rows_of
  rows-many [] = refl
  rows-many (a ∷ []) = refl
  rows-many (a ∷ b ∷ []) = refl
  rows-many (a ∷ b ∷ c ∷ []) = refl
  rows-many (a ∷ b ∷ c ∷ d ∷ []) = refl
  rows-many (a ∷ b ∷ c ∷ d ∷ e ∷ []) = refl
  rows-many (a ∷ b ∷ c ∷ d ∷ e ∷ g ∷ ws) = let z = rows-many ws in omega arith

  -- the rows are the chunks of six words
  pub rows-chunks : (ws : List ℕ) → rows_of f ws ≡ map (of_row f) (first_chunks 6 (length ws / 6) ws)
  unfolding rows_of
  rows-chunks [] = refl
  rows-chunks (a ∷ []) = refl
  rows-chunks (a ∷ b ∷ []) = refl
  rows-chunks (a ∷ b ∷ c ∷ []) = refl
  rows-chunks (a ∷ b ∷ c ∷ d ∷ []) = refl
  rows-chunks (a ∷ b ∷ c ∷ d ∷ e ∷ []) = refl
  rows-chunks (a ∷ b ∷ c ∷ d ∷ e ∷ g ∷ ws) = let n : length (a ∷ b ∷ c ∷ d ∷ e ∷ g ∷ ws) / 6 ≡ suc (length ws / 6) = omega arith in
      rw n (ap (λ (rs : List A). f a b c d e g ∷ rs) (rows-chunks ws))

  -- a test of each row is one of each chunk
  pub any-chunks : (p : A → Bool) (ws : List ℕ) (rs : List (List ℕ)) → rs ≡ first_chunks 6 (length ws / 6) ws
      → any (λ r. p (of_row f r)) rs ≡ any p (rows_of f ws)
  any-chunks p ws rs e = sym (ap (any p) (rows-chunks ws ∙ ap (map (of_row f)) (sym e)) ∙ any-map (of_row f) p rs)

-- Calls

pub rows-count : (ws : List ℕ) → length (call_rows ws) ≡ length ws / 6
rows-count ws = rows-many call_row ws

-- Whether an element passes a test, every one being looked at: t says whether one before the i-th does

module _ {A : Type 0} (f : A → Bool) (d : A) (xs : List A) (i : ℕ) (t : Bool) (v : (t || any f (drop i xs)) ≡ any f xs) where
  pub all-each : length xs ≤ i → t ≡ any f xs
  unfolding any
  all-each h = sym (or-false t) ∙ (let z = rw (drop_of_length-le xs h) at v in z)

  pub or_each : i < length xs → (u : Bool) → u ≡ f (get_or xs i d) → ((t || u) || any f (drop (i + 1) xs)) ≡ any f xs
  unfolding any
  or_each h u e = or_assoc t u (any f (drop (i + 1) xs)) ∙ (let z : (t || any f (drop i xs)) ≡ (t || (u || any f (drop (i + 1) xs))) = rw (add-one, drop-cons xs i d h, e) refl in sym z) ∙ v

-- A text that may be absent

module _ (f : Span → Bool) (x : Option Span) where
  pub absent_none : x ≡ None → false ≡ any f (span_in x)
  unfolding any
  absent_none e = rw e refl

  pub present-one : (y : Span) → x ≡ Some y → f y ≡ any f (span_in x)
  unfolding any
  present-one y e = rw e (sym (or-false (f y)))

-- An index of one word or none

pub started : (s : List ℕ) (n : ℕ) → n ≡ longest s → length s ≤ limit → Started s (record { first = n; words = 1 })
started s n e h = record { few = omega arith; index = indexed_first s n e; short = λ _. h }

-- One call: the span of its bid, and that of its annotation where there is one

module _ (f : Span → Bool) (c : Call) where
  pub call-bid : f c.bid ≡ true → true ≡ any f (spans_of_call c)
  unfolding any
  call-bid h = simp h

  module _ (h : f c.bid ≡ false) where
    pub call-bare : c.annotated ≡ 0 → false ≡ any f (spans_of_call c)
    unfolding any
    call-bare e = simp (h, eq-eqb _ _ e)

    pub call-annotated : (c.annotated ≡ 0 → ⊥) → f c.annotation ≡ any f (spans_of_call c)
    unfolding any
    call-annotated e = simp (h, ne_eqb _ _ e, or-false)

  -- both by one test
  pub call_either : (t u : Bool) → t ≡ f c.bid → u ≡ f c.annotation → (t || (not (eqb c.annotated 0) && u)) ≡ any f (spans_of_call c)
  unfolding any
  call_either t u et eu = rw (et, eu) (ap (λ (w : Bool). f c.bid || w) (go (eqb c.annotated 0)))
    where
      go : (b : Bool) → (not b && f c.annotation) ≡ any f (span_in (pick b None (Some c.annotation)))
      go true = refl
      go false = sym (or-false (f c.annotation))

-- All spans: the names, the texts that may be absent, and those of the calls

calls-any : (f : Span → Bool) (cs : List Call) → any f (call_spans (map call_in cs)) ≡ any (λ c. any f (spans_of_call c)) cs
unfolding any call_spans
calls-any f [] = refl
calls-any f (c ∷ cs) = any_append f (spans_of_call c) (call_spans (map call_in cs)) ∙ ap (λ (t : Bool). any f (spans_of_call c) || t) (calls-any f cs)

-- whatever the deal, and whatever the calls are lent as
pub spans-any : (f : Span → Bool) (s : List ℕ) (h : Head) (ds : List ℕ) (calls : List Call) (cs : List ℕ)
    → any f (lent_spans (record { text = s; board = board_of h ds; calls = calls; cards = cs })) ≡ (any f (head_spans h) || any (λ c. any f (spans_of_call c)) calls)
unfolding lent_spans lent_board
spans-any f s h ds calls cs = simp (any_append, calls-any, or_assoc)

pub head_any : (f : Span → Bool) (h : Head) → any f (head_spans h)
    ≡ (any f h.names || (any f (span_in h.title) || (any f (span_in h.room_board) || any f (span_in h.board_header))))
head_any f h = simp any_append

-- the four tests of it
pub head_four : (f : Span → Bool) (h : Head) (a b c d : Bool) → a ≡ any f h.names → b ≡ any f (span_in h.title)
    → c ≡ any f (span_in h.room_board) → d ≡ any f (span_in h.board_header) → (((a || b) || c) || d) ≡ any f (head_spans h)
head_four f h a b c d ea eb ec ed = rw (ea, eb, ec, ed) (simp or_assoc (sym (head_any f h)))

-- a card or a flag outside its range, whatever the board
pub number_is : (s : List ℕ) (b : Board) (ws cs : List ℕ) → bad_number (lent s b ws cs) ≡ (bad_cards cs || any bad_flag (call_rows ws))
unfolding bad_number
number_is s b ws cs = refl

-- what is wrong with the rows, the cards and the heading, taken together: their numbers, and their texts
module _ (s : List ℕ) (h : Head) (ds ws cs : List ℕ) where
  pub bounds_all : (r : Bounds) → RowsBounded s ws r → (t : Bool) → t ≡ bad_cards cs → (u : Bool) → u ≡ any (passes_end s) (head_spans h)
      → Bounded (lent s (board_of h ds) ws cs) (record { number = t || r.number; past = u || r.past })
  unfolding bad_number
  bounds_all r f t et u eu = record { numbers = rw (et, f.flags) refl; ends = rw (eu, f.ends) (sym (spans-any (passes_end s) s h ds (call_rows ws) cs)) }

  pub texts-all : (t u : Bool) → t ≡ any (amiss s) (head_spans h) → u ≡ any (λ c. any (amiss s) (spans_of_call c)) (call_rows ws)
      → (t || u) ≡ any (amiss s) (lent_spans (lent s (board_of h ds) ws cs))
  texts-all t u et eu = rw (et, eu) (sym (spans-any (amiss s) s h ds (call_rows ws) cs))

-- where nothing passes the end, what is amiss is not UTF-8
pub amiss-ill : (s : List ℕ) (xs : List Span) → any (passes_end s) xs ≡ false → any (amiss s) xs ≡ any (ill_span s) xs
unfolding any
amiss-ill s [] h = refl
amiss-ill s (x ∷ xs) h = let n = or_none (passes_end s x) (any (passes_end s) xs) h in rw n.0 (ap (λ (t : Bool). ill_span s x || t) (amiss-ill s xs n.1))

pub texts-ill : (x : Lent) (r : Bounds) → Bounded x r → r.past ≡ false → (t : Bool) → t ≡ any (amiss x.text) (lent_spans x) → any (ill_span x.text) (lent_spans x) ≡ t
texts-ill x r f h t e = sym (e ∙ amiss-ill x.text (lent_spans x) (sym f.ends ∙ h))

-- The verdict, by the tests that led there

module _ (other : Bool) (x : Lent) where
  pub check_long : limit < length x.text → Err TextTooLong ≡ checked other x
  unfolding unless lent_checks
  check_long h = simp (lt-ltb limit (length x.text) h)

  module _ (h : length x.text ≤ limit) where
    pub check_other : other ≡ true → Err OutOfRange ≡ checked other x
    unfolding unless lent_checks
    check_other o = simp (le-ltb limit (length x.text) h, o)

    module _ (o : other ≡ false) (r : Bounds) (f : Bounded x r) where
      pub check_number : r.number ≡ true → Err OutOfRange ≡ checked other x
      unfolding unless lent_checks
      check_number k = simp (le-ltb limit (length x.text) h, o, ← f.numbers, k)

      module _ (k : r.number ≡ false) where
        pub check_past : r.past ≡ true → Err SpanPastEnd ≡ checked other x
        unfolding unless lent_checks
        check_past l = simp (le-ltb limit (length x.text) h, o, ← f.numbers, k, ← f.ends, l)

        module _ (l : r.past ≡ false) (t : Bool) (e : t ≡ any (amiss x.text) (lent_spans x)) where
          pub check_ill : t ≡ true → Err SpanNotUtf8 ≡ checked other x
          unfolding unless lent_checks
          check_ill m = simp (le-ltb limit (length x.text) h, o, ← f.numbers, k, ← f.ends, l, texts-ill x r f l t e, m)

          pub check_good : t ≡ false → Ok tt ≡ checked other x
          unfolding unless lent_checks
          check_good m = simp (le-ltb limit (length x.text) h, o, ← f.numbers, k, ← f.ends, l, texts-ill x r f l t e, m)

-- What a caller has of it

-- no check meets the board
pub record Passed (other : Bool) (x : Lent) : Type 0 where
  pub short : length x.text ≤ limit
  pub others : other ≡ false
  pub numbers : bad_number x ≡ false
  pub within : any (passes_end x.text) (lent_spans x) ≡ false
  pub utf8 : any (ill_span x.text) (lent_spans x) ≡ false

pub passed : {A : Type 0} (other : Bool) (x : Lent) (a b : A) → unless (lent_checks other x) a ≡ Ok b → Passed other x
unfolding lent_checks
passed other x a b h =
    let p = unmet _ _ _ _ _ h in
    let q = unmet _ _ _ _ _ p.1 in
    let r = unmet _ _ _ _ _ q.1 in
    let u = unmet _ _ _ _ _ r.1 in
    let n = or_none other (bad_number x) q.0 in
    record { short = ltb-false limit (length x.text) p.0; others = n.0; numbers = n.1; within = r.0; utf8 = u.0 }

-- the call's answer, whatever checks follow and whatever its result would be
module _ (other : Bool) (x : Lent) (v : Result Unit Refusal) (e : v ≡ checked other x) where
  pub check_refuses : {B : Type 0} (ds : List (Option Refusal)) (b : B) (r : Refusal) → v ≡ Err r → unless (lent_checks other x ++ ds) b ≡ Err r
  check_refuses ds b r f = unless-refused (lent_checks other x) ds tt b r (sym e ∙ f)

  pub check_passes : {B : Type 0} (ds : List (Option Refusal)) (b : B) → v ≡ (Ok tt) → unless (lent_checks other x ++ ds) b ≡ unless ds b
  check_passes ds b f = unless-passed (lent_checks other x) ds tt tt b (sym e ∙ f)

  pub check_passed : v ≡ (Ok tt) → Passed other x
  check_passed f = passed other x tt tt (sym e ∙ f)
