-- What walks over lent rows find, and what they put. (01: Writer, mb and an; Eight refusals, 5 to 7)
use Rattle.std.specs.Prelude.{ℕ, ◌+◌, ◌||◌, List, [], ◌∷◌, map, length}
use Rattle.lin_spec.specs.Base.{pick, any}
use Rattle.lin_spec.specs.Records.{bytes_at}
use Rattle.lin_spec.specs.Refusals.{passes_end, sat}
use Rattle.lin_spec.specs.Board.{map_call}
use Rattle.lin_spec.specs.Writer.{calls_text, pipe_mark, line_mark}
use Rattle.lin_spec.specs.Lent.{call_in}
use Rattle.lin_spec.specs.declared.Call.{Call}
use Rattle.board_lent.specs.Calls.{spans_of_call, text_bytes}
use Rattle.board_lent.specs.Checks.{amiss}
use Rattle.writer_texts.specs.Calls.{call_bytes}
use Rattle.rows.specs.declared.CallRow.{CallRow}
use Rattle.rows.specs.Rows.{row_numbers}
use Rattle.rows_walks.specs.declared.Scan.{Scan}

-- the bytes that a row is written with, and all rows
abbrev pub row_bytes : (p q : ℕ) (text : List ℕ) → CallRow → List ℕ
row_bytes p q s r = call_bytes p q s (row_numbers r)

unfoldable pub rows_bytes : (p q : ℕ) (text : List ℕ) → List CallRow → List ℕ
rows_bytes p q s rs = calls_text p q (map (map_call (bytes_at s)) (map call_in (map row_numbers rs)))

-- a call whose bytes are looked at: whether 5 or 6 meets a text of it
abbrev pub looked_at_call : (text : List ℕ) → Call → Scan → Scan
looked_at_call s c z =
    record { look = z.look; blocks = z.blocks; past = z.past; ill = z.ill || any (amiss s) (spans_of_call c); spans = z.spans; need = z.need }

-- a call whose numbers are looked at: whether 5 meets a text of it, how many bytes its texts have together, and how many it is written with. The marks of
-- cleaning do not change that number
abbrev pub measured : (text : List ℕ) → Call → Scan → Scan
measured s c z =
    record {
      look = z.look;
      blocks = z.blocks;
      past = z.past || any (passes_end s) (spans_of_call c);
      ill = z.ill;
      spans = sat (z.spans + text_bytes c);
      need = sat (z.need + length (call_bytes pipe_mark line_mark s c));
    }

-- a row, and all rows from the first on
unfoldable pub scan_row : (text : List ℕ) → CallRow → Scan → Scan
scan_row s r z = pick z.look (looked_at_call s (row_numbers r) z) (measured s (row_numbers r) z)

unfoldable pub scanned : (text : List ℕ) → List CallRow → Scan → Scan
scanned s [] z = z
scanned s (r ∷ rs) z = scanned s rs (scan_row s r z)
