-- The example of the program linlist, proved of the definitions. (01: Program linlist)
-- Assumes nothing.
use mathlib.Core.Path.{◌≡◌, refl}
use Rattle.lin_spec.specs.Base.{ascii, any, join_by, starts, eq_all, keep, all}
use Rattle.lin_spec.specs.Records.{part}
use Rattle.lin_spec.specs.Utf8.{first, utf_step, utf, utf8, encode}
use Rattle.lin_spec.specs.White.{white_space, front, white_at, skip_white, trim_start, blank, trim_end, trim, lower, same_word, is_command}
use Rattle.lin_spec.specs.Tokens.{cut}
use Rattle.lin_spec.specs.Refusals.{unless}
use Rattle.lin_spec.specs.Cards.{index_of, suit_of, rank_of, read_card, sum, hand_from, read_hand, field, unheld_cards, east_of, deal_of}
use Rattle.lin_spec.specs.Board.{named, dealer_of, read_md, read_sv, ends_in, without_end, value_from, number_in, over, undealt, board_from}
use Rattle.lin_spec.specs.Reading.{placed, stream}
use Rattle.lin_spec.specs.File.{board_in, parts_from, lines_from, sections, file_spans}
use Rattle.lin_spec.specs.Decimal.{digits_of, decimal}
use Rattle.lin_spec.specs.Listing.{line, header, board_line, board_lines, listing}

-- "For `qx|o1|md|3SAK,SQJ,ST9|mb|1C!|pc|SA|mc|9|` it prints .."
pub example : listing (ascii "qx|o1|md|3SAK,SQJ,ST9|mb|1C!|pc|SA|mc|9|") ≡ ascii "board dealer vul S W N E calls cards claim\n0 N 0 2 2 2 0 1 1 9\n"
unfolding cut placed stream unless first utf_step utf utf8 board_from over undealt named is_command same_word lower trim trim_end trim_start skip_white blank white_at front white_space encode starts eq_all any read_md dealer_of deal_of east_of field read_hand hand_from suit_of rank_of index_of sum unheld_cards read_sv number_in all value_from read_card without_end ends_in part board_in parts_from lines_from sections keep file_spans header board_line board_lines listing line join_by decimal digits_of
example = refl
