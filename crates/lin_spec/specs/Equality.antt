-- `LinData`'s equality. (01: equality, "lopsided for repeated cards as in `same_cards`")
use Rattle.std.specs.Prelude.{ℕ, Bool, true, false, ◌&&◌, ◌||◌, List, [], ◌∷◌, eqb, Option, None, Some}
use Rattle.lin_spec.specs.Base.{eq_all, eq_list}
use Rattle.lin_spec.specs.Refusals.{Answer, refuse_if, unless, too_long, past_end, span_not_utf8}
use Rattle.lin_spec.specs.Letters.{seat_number, sv_letter, hand_at}
use Rattle.lin_spec.specs.Board.{CallOf, BoardOf}
use Rattle.lin_spec.specs.Writer.{same_cards}
use Rattle.lin_spec.specs.Lent.{Lent, lent_spans, meaning, bad_number}
use Rattle.lin_spec.specs.declared.Seat.TheVariants.{South, West, North, East}
use Rattle.lin_spec.specs.declared.Refusal.TheVariants.{OutOfRange}

-- options are equal when their elements are
abbrev pub eq_option : {A : Type 0} → (A → A → Bool) → Option A → Option A → Bool
eq_option f None None = true
eq_option f None (Some b) = false
eq_option f (Some a) None = false
eq_option f (Some a) (Some b) = f a b

abbrev pub eq_flag : Bool → Bool → Bool
eq_flag true true = true
eq_flag true false = false
eq_flag false true = false
eq_flag false false = true

-- "Fields compare by bytes"
unfoldable pub eq_call : CallOf (List ℕ) → CallOf (List ℕ) → Bool
eq_call c d = eq_list c.bid d.bid && (eq_flag c.alerted d.alerted && eq_option eq_list c.annotation d.annotation)

-- each hand by `same_cards`, that of the first board being self
unfoldable pub same_deal : (d e : List ℕ) → Bool
same_deal d e =
    same_cards (hand_at d South) (hand_at e South)
    && (same_cards (hand_at d West) (hand_at e West)
    && (same_cards (hand_at d North) (hand_at e North) && same_cards (hand_at d East) (hand_at e East)))

-- `LinData`'s `eq`, self first
unfoldable pub equal : (self other : BoardOf (List ℕ)) → Bool
equal a b =
    eq_all eq_list a.names b.names
    && (eqb (seat_number a.dealt.dealer) (seat_number b.dealt.dealer)
    && (same_deal a.dealt.deal b.dealt.deal
    && (eqb (sv_letter a.vulnerability) (sv_letter b.vulnerability)
    && (eq_option eq_list a.title b.title
    && (eq_option eq_list a.room b.room
    && (eq_option eq_list a.header b.header
    && (eq_all eq_call a.calls b.calls
    && (eq_list a.play b.play && eq_option eqb a.claim b.claim))))))))

-- "Each is checked over the whole input before the next": each number over both boards; `other` says whether another number of the call is outside its
-- range
unfoldable pub same_boards : (other : Bool) (x y : Lent) → Answer Bool
same_boards other x y =
    unless
    (too_long x.text
    ∷ too_long y.text
    ∷ refuse_if (other || (bad_number x || bad_number y)) OutOfRange
    ∷ past_end x.text (lent_spans x)
    ∷ past_end y.text (lent_spans y)
    ∷ span_not_utf8 x.text (lent_spans x)
    ∷ span_not_utf8 y.text (lent_spans y)
    ∷ [])
    (equal (meaning x) (meaning y))

abbrev pub same_board : (x y : Lent) → Answer Bool
same_board x y = same_boards false x y
