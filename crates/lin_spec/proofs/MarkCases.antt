-- U+FEFF in every place of a board or a file that is trimmed, and in values that are not, proved of the definitions by computation: a small text for each.
-- (02: N2)
-- Assumes nothing.
use Rattle.std.specs.Prelude.{None, Some, Ok}
use Prim.Native.Nat.{ℕ}
use mathlib.Core.Path.{◌≡◌, refl}
use mathlib.Core.Bool.{false}
use mathlib.Core.List.{List, [], ◌∷◌, ◌++◌}
use lib.ListN.{replicate, drop}
use Rattle.lin_spec.specs.Base.{ascii, any, starts, join_by, eq_all, keep, all}
use Rattle.lin_spec.specs.Records.{part}
use Rattle.lin_spec.specs.Utf8.{first, utf_step, utf, utf8, encode}
use Rattle.lin_spec.specs.White.{white_space, front, white_at, skip_white, trim_start, blank, trim_end, trim, lower, same_word, is_command}
use Rattle.lin_spec.specs.Tokens.{cut, paired, tokens}
use Rattle.lin_spec.specs.Cards.{index_of, suit_of, rank_of, read_card, sum, hand_from, read_hand, field, unheld_cards, east_of, deal_of}
use Rattle.lin_spec.specs.Board.{dealer_of, read_md, read_sv, named, annotated, ends_in, without_end, value_from, number_in, over, undealt, board_from}
use Rattle.lin_spec.specs.Reading.{parse_lin, stream, placed}
use Rattle.lin_spec.specs.Refusals.{unless}
use Rattle.lin_spec.specs.File.{parts_from, lines_from, sections, file_spans, count_boards}
use Rattle.lin_spec.specs.Annotation.{note_of, run, part_length, parts_up_to, annotation_parts, nag_word, part_word, annotation_text}
use Rattle.lin_spec.specs.declared.Seat.TheVariants.{South}
use Rattle.lin_spec.specs.declared.Vulnerability.TheVariants.{Both}

-- the mark between two texts
unfoldable marked : (before after : List ℕ) → List ℕ
marked x y = x ++ (encode 0xFEFF ++ y)

-- three hands of 13 cards, each a suit
abbrev three_suits : List ℕ
three_suits = ascii "md|1SAKQJT98765432,HAKQJT98765432,DAKQJT98765432"

pub record MarkCases : Type 0 where
  -- "commands, md, sv, pc, mc, East's field and blank lines"
  command : (parse_lin (marked [] (ascii "md|1|"))).dealt ≡ record { dealer = South; deal = replicate 208 0 }
  md : (parse_lin (marked (ascii "md|") (ascii "1|"))).dealt ≡ record { dealer = South; deal = replicate 208 0 }
  sv : (parse_lin (marked (ascii "sv|") (ascii "b|"))).vulnerability ≡ Both
  pc : (parse_lin (marked (ascii "pc|SA") (ascii "|"))).play ≡ 12 ∷ []
  mc : (parse_lin (marked (ascii "mc|") (ascii "9|"))).claim ≡ Some 9
  -- a field after East's, so that the mark is not at the end of the md
  east : drop 156 (parse_lin (marked (three_suits ++ ascii ",") (ascii ",|"))).dealt.deal ≡ replicate 39 0 ++ replicate 13 1
  line : count_boards (marked [] []) ≡ Ok 0
  -- a qx that is recognised makes parts of the file's lines
  parts : count_boards (marked [] (ascii "qx|a|sv|n|")) ≡ Ok 0
  -- "Values that are not trimmed keep the mark"
  pn : (parse_lin (marked (ascii "pn|") (ascii "|"))).names ≡ marked [] [] ∷ [] ∷ [] ∷ [] ∷ []
  mn : (parse_lin (marked (ascii "mn|") (ascii "|"))).title ≡ Some (marked [] [])
  qx : (parse_lin (marked (ascii "qx|") (ascii "|"))).room ≡ Some (marked [] [])
  ah : (parse_lin (marked (ascii "ah|") (ascii "|"))).header ≡ Some (marked [] [])
  mb : (parse_lin (marked (ascii "mb|1C!") (ascii "|"))).calls ≡ record { bid = marked (ascii "1C!") []; alerted = false; annotation = None } ∷ []
  an : (parse_lin (marked (ascii "mb|p|an|") (ascii "|"))).calls ≡ record { bid = ascii "p"; alerted = false; annotation = Some (marked [] []) } ∷ []
  -- "read as mc's digits but untrimmed": the note 1 is there, and the reference stays as written
  note : annotation_text (marked (ascii "=") (ascii "1=")) (replicate 3 0 ++ (1 ∷ 0 ∷ 1 ∷ replicate 762 0)) (marked (ascii "=") (ascii "1=")) ≡ Some (marked (ascii "=") (ascii "1="))

pub mark_cases : MarkCases
unfolding marked count_boards unless utf8 utf utf_step first file_spans sections keep any parts_from lines_from stream placed tokens cut paired parse_lin board_from over undealt is_command same_word lower trim trim_end trim_start skip_white blank white_at front white_space encode starts eq_all read_md dealer_of deal_of east_of field read_hand hand_from suit_of rank_of index_of sum unheld_cards read_sv named annotated number_in all value_from read_card without_end ends_in part annotation_text annotation_parts parts_up_to part_length run part_word nag_word note_of join_by
mark_cases =
    record {
      command = refl;
      md = refl;
      sv = refl;
      pc = refl;
      mc = refl;
      east = refl;
      line = refl;
      parts = refl;
      pn = refl;
      mn = refl;
      qx = refl;
      ah = refl;
      mb = refl;
      an = refl;
      note = refl;
    }
