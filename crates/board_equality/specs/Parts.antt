-- The comparison of two lent boards in parts, and the checks of both. (01: equality; Eight refusals)
use Rattle.lin_spec.specs.declared.Span.{Span}
use Rattle.std.specs.Prelude.{ℕ, Bool, false, ◌&&◌, ◌||◌, List, [], ◌∷◌, map, eqb, Option, Err, Ok}
use Rattle.lin_spec.specs.Base.{pick, any, eq_list}
use Rattle.lin_spec.specs.Records.{bytes_at}
use Rattle.lin_spec.specs.Refusals.{Answer, refuse_if, unless, too_long, past_end, span_not_utf8}
use Rattle.lin_spec.specs.Letters.{seat_number, sv_letter}
use Rattle.lin_spec.specs.Board.{CallOf, map_option, map_call}
use Rattle.lin_spec.specs.Lent.{call_rows, call_in, Lent, lent_spans, bad_number}
use Rattle.lin_spec.specs.Equality.{eq_option, same_deal}
use Rattle.lin_spec.specs.declared.Call.{Call}
use Rattle.lin_spec.specs.declared.Board.{Board}
use Rattle.lin_spec.specs.declared.Refusal.{Refusal}
use Rattle.lin_spec.specs.declared.Refusal.TheVariants.{OutOfRange, SpanNotUtf8}
use Rattle.board_lent.specs.Checks.{amiss}

-- a call with its texts as bytes, and the calls of the rows
abbrev pub call_in_bytes : (s : List ℕ) → Call → CallOf (List ℕ)
call_in_bytes s c = map_call (bytes_at s) (call_in c)

abbrev pub calls_in_bytes : (s ws : List ℕ) → List (CallOf (List ℕ))
calls_in_bytes s ws = map (map_call (bytes_at s)) (map call_in (call_rows ws))

-- the parts of `equal`, in its order, after the names and around the calls
abbrev pub same_dealt : (b c : Board) → Bool
same_dealt b c =
    eqb (seat_number b.dealer) (seat_number c.dealer)
    && (same_deal b.deal.counts c.deal.counts && eqb (sv_letter b.vulnerability) (sv_letter c.vulnerability))

abbrev pub same_text : (s : List ℕ) → Option Span → (t : List ℕ) → Option Span → Bool
same_text s x t y = eq_option eq_list (map_option (bytes_at s) x) (map_option (bytes_at t) y)

abbrev pub same_texts : (s : List ℕ) → Board → (t : List ℕ) → Board → Bool
same_texts s b t c =
    same_text s b.title t c.title
    && (same_text s b.room_board t c.room_board && same_text s b.board_header t c.board_header)

abbrev pub same_play : (cards : List ℕ) → Board → (cards2 : List ℕ) → Board → Bool
same_play cs b ds c = eq_list cs ds && eq_option eqb b.claim c.claim

-- "Each is checked over the whole input before the next": the checks of both but the last, 6 of the second
unfoldable pub most_checks : (other : Bool) (x y : Lent) → List (Option Refusal)
most_checks other x y =
    too_long x.text
    ∷ too_long y.text
    ∷ refuse_if (other || (bad_number x || bad_number y)) OutOfRange
    ∷ past_end x.text (lent_spans x)
    ∷ past_end y.text (lent_spans y)
    ∷ span_not_utf8 x.text (lent_spans x)
    ∷ []

abbrev pub most_checked : (other : Bool) (x y : Lent) → Answer Unit
most_checked other x y = unless (most_checks other x y) tt

-- the answer where they pass and the boards differ
abbrev pub unlike_but : Lent → Answer Bool
unlike_but y = pick (any (amiss y.text) (lent_spans y)) (Err SpanNotUtf8) (Ok false)
