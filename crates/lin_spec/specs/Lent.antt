-- A board that is lent to a call: its text, its record, its rows and its cards; what it means, and the checks that it is put to. (01: Records;
-- Eight refusals)
use Rattle.std.specs.Prelude.{ℕ, ◌≡◌, Bool, false, ◌||◌, not, List, [], ◌∷◌, ◌++◌, map, eqb, ltb, Option, None, Some}
use Rattle.lin_spec.specs.Base.{pick, any}
use Rattle.lin_spec.specs.Records.{span, bytes_at}
use Rattle.lin_spec.specs.Refusals.{refuse_if, too_long, passes_end, ill_span, past_end, span_not_utf8}
use Rattle.lin_spec.specs.Board.{CallOf, BoardOf, map_board}
use Rattle.lin_spec.specs.Reading.{flag}
use Rattle.lin_spec.specs.declared.Span.{Span}
use Rattle.lin_spec.specs.declared.Call.{Call}
use Rattle.lin_spec.specs.declared.Board.{Board}
use Rattle.lin_spec.specs.declared.Refusal.{Refusal}
use Rattle.lin_spec.specs.declared.Refusal.TheVariants.{OutOfRange}

-- "a list of rows lent by the caller": six words to a row, and a rest is no row
unfoldable pub rows_of : {A : Type 0} → (row : ℕ → ℕ → ℕ → ℕ → ℕ → ℕ → A) → (words : List ℕ) → List A
rows_of f (a ∷ b ∷ c ∷ d ∷ e ∷ g ∷ ws) = f a b c d e g ∷ rows_of f ws
rows_of f (a ∷ b ∷ c ∷ d ∷ e ∷ []) = []
rows_of f (a ∷ b ∷ c ∷ d ∷ []) = []
rows_of f (a ∷ b ∷ c ∷ []) = []
rows_of f (a ∷ b ∷ []) = []
rows_of f (a ∷ []) = []
rows_of f [] = []

-- a call's row, as a reader stores it
abbrev pub call_row : (a n alerted annotated b m : ℕ) → Call
call_row a n t u b m = record { bid = span a n; alerted = t; annotated = u; annotation = span b m }

abbrev pub call_rows : (words : List ℕ) → List Call
call_rows ws = rows_of call_row ws

-- "bid span, alerted or not, annotation span or absent"
abbrev pub call_in : Call → CallOf Span
call_in c = record { bid = c.bid; alerted = not (eqb c.alerted 0); annotation = pick (eqb c.annotated 0) None (Some c.annotation) }

-- and such a call as six numbers: an annotation that is absent has no place
abbrev pub is_present : Option Span → ℕ
is_present None = 0
is_present (Some x) = 1

abbrev pub place_of : Option Span → Span
place_of None = span 0 0
place_of (Some x) = x

abbrev pub row_of : CallOf Span → Call
row_of c = record { bid = c.bid; alerted = flag c.alerted; annotated = is_present c.annotation; annotation = place_of c.annotation }

pub record Lent : Type 0 where
  pub text : List ℕ
  pub board : Board
  pub calls : List Call
  pub cards : List ℕ

abbrev pub lent : (text : List ℕ) → Board → (words cards : List ℕ) → Lent
lent s b ws cs = record { text = s; board = b; calls = call_rows ws; cards = cs }

-- the board with its texts as spans, and with their bytes
unfoldable pub lent_board : Lent → BoardOf Span
lent_board x =
    let b = x.board in
    record {
      names = b.names;
      dealt = record { dealer = b.dealer; deal = b.deal.counts };
      vulnerability = b.vulnerability;
      title = b.title;
      room = b.room_board;
      header = b.board_header;
      calls = map call_in x.calls;
      play = x.cards;
      claim = b.claim;
    }

unfoldable pub meaning : Lent → BoardOf (List ℕ)
meaning x = map_board (bytes_at x.text) (lent_board x)

-- the spans that it names
abbrev pub span_in : Option Span → List Span
span_in None = []
span_in (Some x) = x ∷ []

unfoldable pub call_spans : List (CallOf Span) → List Span
call_spans [] = []
call_spans (c ∷ cs) = c.bid ∷ (span_in c.annotation ++ call_spans cs)

unfoldable pub lent_spans : Lent → List Span
lent_spans x =
    let b = lent_board x in
    b.names ++ (span_in b.title ++ (span_in b.room ++ (span_in b.header ++ call_spans b.calls)))

-- a flag that is neither 0 nor 1
abbrev pub bad_flag : Call → Bool
bad_flag c = ltb 1 c.alerted || ltb 1 c.annotated

-- 8: "card, level or number outside its range"
abbrev pub bad_cards : List ℕ → Bool
bad_cards cs = any (ltb 51) cs

unfoldable pub bad_number : Lent → Bool
bad_number x = bad_cards x.cards || any bad_flag x.calls

-- "1, 8, 5, 6, 3, 7", those before 7, for a call that is lent one board; `other` says whether another number of the call is outside its range
unfoldable pub lent_checks : (other : Bool) → Lent → List (Option Refusal)
lent_checks other x =
    too_long x.text ∷ refuse_if (other || bad_number x) OutOfRange ∷ past_end x.text (lent_spans x) ∷ span_not_utf8 x.text (lent_spans x) ∷ []

-- what can be lent to a call: none of 8, 5 and 6 meets it, in the order of the checks
pub record Lendable (x : Lent) : Type 0 where
  pub numbers : bad_number x ≡ false
  pub within : any (passes_end x.text) (lent_spans x) ≡ false
  pub texts : any (ill_span x.text) (lent_spans x) ≡ false
