-- What equality is: a board that is accepted equals itself, and repeated cards make it lopsided. (01: equality)
-- Assumes nothing.
use Rattle.std.specs.Prelude.{Option, None, Some, Ok}
use Prim.Native.Nat.{ℕ}
use mathlib.Core.Path.{◌≡◌, refl, sym, ◌∙◌}
use mathlib.Core.Bool.{Bool, true, false, ◌||◌, not}
use mathlib.Core.List.{List, [], ◌∷◌, ◌++◌}
use lib.Dec.{eqb}
use borrow.Author.Tests.{eq-eqb}
use Rattle.lin_spec.specs.Base.{ascii, any, eq_all, eq_list, starts}
use Rattle.lin_spec.specs.Records.{part}
use Rattle.lin_spec.specs.Refusals.{span_not_utf8}
use Rattle.lin_spec.specs.Utf8.{encode}
use Rattle.lin_spec.specs.White.{white_space, front, white_at, skip_white, trim_start, blank, trim_end, trim, lower, same_word, is_command}
use Rattle.lin_spec.specs.Tokens.{cut, paired, tokens}
use Rattle.lin_spec.specs.Cards.{index_of, suit_of, rank_of, sum, hand_from, read_hand, field, unheld_cards, east_of, deal_of}
use Rattle.lin_spec.specs.Board.{CallOf, BoardOf, dealer_of, read_md, over, undealt, board_from}
use Rattle.lin_spec.specs.Reading.{parse_lin}
use Rattle.lin_spec.specs.Writer.{held_in}
use Rattle.lin_spec.specs.Lent.{Lent, lent_spans, meaning}
use Rattle.lin_spec.specs.Equality.{eq_option, eq_flag, eq_call, same_deal, equal, same_boards}
use Rattle.lin_spec.proofs.Base.{list_eq}
use Rattle.lin_spec.proofs.Checks.{unless-same}
use Rattle.board_equality.specs.Parts.{most_checks}

-- A board equals itself

pub all_self : {A : Type 0} (f : A → A → Bool) → ((a : A) → f a a ≡ true) → (x : List A) → eq_all f x x ≡ true
unfolding eq_all
all_self f h [] = refl
all_self f h (a ∷ x) = simp (h a, all_self f h x)

option_self : {A : Type 0} (f : A → A → Bool) → ((a : A) → f a a ≡ true) → (x : Option A) → eq_option f x x ≡ true
option_self f h None = refl
option_self f h (Some a) = h a

flag_self : (t : Bool) → eq_flag t t ≡ true
flag_self true = refl
flag_self false = refl

number_self : (n : ℕ) → eqb n n ≡ true
number_self n = eq-eqb n n refl

pub call_self : (c : CallOf (List ℕ)) → eq_call c c ≡ true
unfolding eq_call
call_self c = simp (list_eq c.bid, flag_self c.alerted, option_self eq_list list_eq c.annotation)

held_self : (x : List ℕ) → held_in x x ≡ true
unfolding held_in
held_self [] = refl
held_self (n ∷ x) = simp (either (eqb n 0), held_self x)
  where
    either : (t : Bool) → (t || not t) ≡ true
    either true = refl
    either false = refl

pub deal_self : (d : List ℕ) → same_deal d d ≡ true
unfolding same_deal
deal_self d = simp (number_self, held_self)

pub equal_self : (b : BoardOf (List ℕ)) → equal b b ≡ true
unfolding equal
equal_self b =
    simp (
      all_self eq_list list_eq b.names,
      number_self,
      deal_self b.dealt.deal,
      option_self eq_list list_eq b.title,
      option_self eq_list list_eq b.room,
      option_self eq_list list_eq b.header,
      all_self eq_call call_self b.calls,
      list_eq b.play,
      option_self eqb number_self b.claim,
    )

-- so a call that is lent one board twice, and accepted, says so
pub same_self : (other : Bool) (x : Lent) (t : Bool) → same_boards other x x ≡ Ok t → t ≡ true
unfolding same_boards most_checks
same_self other x t h = sym (unless-same (most_checks other x x ++ (span_not_utf8 x.text (lent_spans x) ∷ [])) (equal (meaning x) (meaning x)) t h) ∙ equal_self (meaning x)

-- "lopsided for repeated cards": South's `SAA` equals `SAK`, which holds each of its cards, and not the other way round
pub lopsided : (equal (parse_lin (ascii "md|1SAA|")) (parse_lin (ascii "md|1SAK|")) ≡ true) × (equal (parse_lin (ascii "md|1SAK|")) (parse_lin (ascii "md|1SAA|")) ≡ false)
unfolding equal eq_all eq_call same_deal held_in part tokens cut paired parse_lin board_from over undealt is_command same_word lower trim trim_end trim_start skip_white blank white_at front white_space encode starts any read_md dealer_of deal_of east_of field read_hand hand_from suit_of rank_of index_of sum unheld_cards
lopsided = (refl, refl)
