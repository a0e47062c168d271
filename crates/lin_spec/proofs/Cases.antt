-- The reference cases, C1 to C14, proved of the definitions as a group. (01: Reference cases)
-- Assumes nothing.
use Rattle.std.specs.Prelude.{Some, Ok, None}
use mathlib.Core.Path.{◌≡◌, refl}
use mathlib.Core.Bool.{true}
use mathlib.Core.List.{[], ◌∷◌, ◌++◌}
use lib.ListN.{replicate, set}
use Rattle.lin_spec.specs.Base.{ascii, any, starts, join_by, eq_all, keep, all}
use Rattle.lin_spec.specs.Records.{part}
use Rattle.lin_spec.specs.Utf8.{first, utf_step, utf, utf8, encode}
use Rattle.lin_spec.specs.White.{white_space, front, white_at, skip_white, trim_start, blank, trim_end, trim, lower, same_word, is_command}
use Rattle.lin_spec.specs.Tokens.{cut, paired, left, tokens, trailing}
use Rattle.lin_spec.specs.Tokens.TokenOf.{token}
use Rattle.lin_spec.specs.Cards.{index_of, suit_of, rank_of, read_card, sum, hand_from, read_hand, field, unheld_cards, east_of, deal_of}
use Rattle.lin_spec.specs.Board.{dealer_of, read_md, read_sv, ends_in, without_end, value_from, number_in, over, undealt, board_from}
use Rattle.lin_spec.specs.Reading.{parse_lin, stream, placed}
use Rattle.lin_spec.specs.Refusals.{unless}
use Rattle.lin_spec.specs.File.{parts_from, lines_from, sections, file_spans, count_boards}
use Rattle.lin_spec.specs.Annotation.{note_of, run, part_length, parts_up_to, annotation_parts, nag_word, part_word, annotation_text}
use Rattle.lin_spec.specs.declared.Seat.TheVariants.{South, North}
use Rattle.lin_spec.specs.declared.Vulnerability.{Vulnerability}
use Rattle.lin_spec.proofs.Tokens.{ReadsBack}

-- C1 empty: no token. C2 `a|b`: no token, trailing `a|b`. C3 `a|b|c|`: one, trailing `c|`. C4 `md|1|`: South deals, hands empty.
-- C5 `md|3SA|md|0SK|`: North, South holds SA. C6 `mc|9|mc|x|`: no claim. C7 `mc|+009|`: 9. C8 `pc|SA|pc|S|pc|!SA|`: one card.
-- C9 `sv|b|sv|x|`: none. C10 `mb|1C!!|`: 1C, alerted. C11 `=1=$2z`, note 1 `weak`: `weak ?`. C12 `==`: `==`. C13 `md|1|qx|a|md|2|`: two boards. C14 `qx|a|`: none; `hello`: one.
pub record Cases : Type 0 where
  pub C1 : ReadsBack [] (ascii "") (ascii "")
  pub C2 : ReadsBack [] (ascii "a|b") (ascii "a|b")
  pub C3 : ReadsBack (token (ascii "a") (ascii "b") ∷ []) (ascii "c|") (ascii "a|b|c|")
  pub C4 : (parse_lin (ascii "md|1|")).dealt ≡ record { dealer = South; deal = replicate 208 0 }
  pub C5 : (parse_lin (ascii "md|3SA|md|0SK|")).dealt ≡ record { dealer = North; deal = set (replicate 208 0) 12 1 }
  pub C6 : (parse_lin (ascii "mc|9|mc|x|")).claim ≡ None
  pub C7 : (parse_lin (ascii "mc|+009|")).claim ≡ Some 9
  pub C8 : (parse_lin (ascii "pc|SA|pc|S|pc|!SA|")).play ≡ 12 ∷ []
  pub C9 : (parse_lin (ascii "sv|b|sv|x|")).vulnerability ≡ Vulnerability.None
  pub C10 : (parse_lin (ascii "mb|1C!!|")).calls ≡ record { bid = ascii "1C"; alerted = true; annotation = None } ∷ []
  pub C11 : annotation_text (ascii "=1=$2zweak") (replicate 3 0 ++ (1 ∷ 6 ∷ 4 ∷ replicate 762 0)) (ascii "=1=$2z") ≡ Some (ascii "weak ?")
  pub C12 : annotation_text [] (replicate 768 0) (ascii "==") ≡ Some (ascii "==")
  pub C13 : count_boards (ascii "md|1|qx|a|md|2|") ≡ Ok 2
  pub C14 : (count_boards (ascii "qx|a|") ≡ Ok 0) × (count_boards (ascii "hello") ≡ Ok 1)

pub cases : Cases
unfolding count_boards unless utf8 utf utf_step first file_spans sections keep any parts_from lines_from stream placed tokens trailing cut paired left parse_lin board_from over undealt is_command same_word lower trim trim_end trim_start skip_white blank white_at front white_space encode starts eq_all read_md dealer_of deal_of east_of field read_hand hand_from suit_of rank_of index_of sum unheld_cards read_sv number_in all value_from read_card without_end ends_in part annotation_text annotation_parts parts_up_to part_length run part_word nag_word note_of join_by
cases =
    record {
      C1 = record { toks = refl; rest = refl };
      C2 = record { toks = refl; rest = refl };
      C3 = record { toks = refl; rest = refl };
      C4 = refl;
      C5 = refl;
      C6 = refl;
      C7 = refl;
      C8 = refl;
      C9 = refl;
      C10 = refl;
      C11 = refl;
      C12 = refl;
      C13 = refl;
      C14 = (refl, refl);
    }
