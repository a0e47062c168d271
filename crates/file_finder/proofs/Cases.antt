-- Small files and names, proved of the definitions by computation: José from either keyboard, and the places that a call needs. (02: N3)
-- Assumes nothing.
use Rattle.std.specs.Prelude.{Err, Ok}
use Prim.Native.Nat.{ℕ}
use mathlib.Core.Path.{◌≡◌, refl}
use mathlib.Core.List.{List, [], ◌++◌}
use Rattle.lin_spec.specs.Base.{ascii, any, all, keep, concat, eq_all, starts}
use Rattle.lin_spec.specs.Records.{part}
use Rattle.lin_spec.specs.Utf8.{first, utf_step, utf, utf8, encode}
use Rattle.lin_spec.specs.White.{white_space, front, white_at, skip_white, trim_start, blank, trim_end, trim, lower, same_word, is_command}
use Rattle.lin_spec.specs.Tokens.{cut, paired, tokens}
use Rattle.lin_spec.specs.Board.{named, over, board_from}
use Rattle.lin_spec.specs.Reading.{stream, placed}
use Rattle.lin_spec.specs.Refusals.{unless}
use Rattle.lin_spec.specs.File.{parts_from, lines_from, sections, board_in, file_spans}
use Rattle.lin_spec.specs.declared.Refusal.TheVariants.{OutputTooSmall}
use Rattle.accents.specs.Table.{mapping_table, classes}
use Rattle.accents.specs.Mapping.{lookup, map_once, map_times, mapped}
use Rattle.accents.specs.Ordering.{class, goes_before, insert, order, canonical}
use Rattle.accents.specs.Chars.{followers, number, chars_after}
use Rattle.accents.specs.Names.{same_name, places}
use Rattle.file_finder.specs.Finder.{greatest, places_in, most_places, find_name}

-- José with one character for the accented letter, and with two
unfoldable one : List ℕ
one = ascii "Jos" ++ encode 0xE9

unfoldable two : List ℕ
two = ascii "Jose" ++ encode 0x301

-- two boards, each on a line, with a name in either spelling
unfoldable both : List ℕ
both = ascii "pn|" ++ one ++ ascii "|\npn|,," ++ two ++ ascii "|"

pub record FinderCases : Type 0 where
  -- "An editor looking for José finds half of the films": either spelling finds both boards
  composed : find_name both one 10 ≡ Ok 2
  decomposed : find_name both two 10 ≡ Ok 2
  -- "with the places needed: the mapped characters of the sought name plus the most in any name of the file's boards, 0 without boards"
  short : find_name both one 9 ≡ Err (OutputTooSmall 10)
  empty : find_name [] (encode 0xE9) 1 ≡ Err (OutputTooSmall 2)
  exact : find_name [] (encode 0xE9) 2 ≡ Ok 0
  nothing : find_name [] [] 0 ≡ Ok 0
  -- a name that a later pn replaces takes no place, and neither does one of a part that is no board
  replaced : find_name (ascii "pn|Bernadette|pn|Al|") (ascii "Al") 4 ≡ Ok 1
  part : find_name (ascii "pn|Bernadette|qx||rh||qx|o1|md|1|pn|Al|") (ascii "Al") 4 ≡ Ok 1

pub finder_cases : FinderCases
unfolding one two both find_name most_places places_in greatest same_name places canonical mapped map_times map_once lookup mapping_table order insert goes_before class classes chars_after number followers concat unless utf8 utf utf_step first file_spans sections board_in keep any all parts_from lines_from stream placed tokens cut paired board_from over named is_command same_word lower trim trim_end trim_start skip_white blank white_at front white_space encode starts eq_all part
finder_cases =
    record {
      composed = refl;
      decomposed = refl;
      short = refl;
      empty = refl;
      exact = refl;
      nothing = refl;
      replaced = refl;
      part = refl;
    }
