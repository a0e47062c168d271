-- The board that is made of a PBN record lent as numbers. (01: From PBN, `from_board`)
use Rattle.std.specs.Prelude.{ℕ, List, Err, Ok}
use Rattle.lin_spec.specs.Writer.{pipe_mark, line_mark}
use Rattle.lin_spec.specs.Refusals.{Answer}
use Rattle.lin_spec.specs.Pbn.{pbn, convert_board, Conversion as BoardConversion}
use Rattle.lin_spec.specs.declared.Converted.{Converted}
use Rattle.lin_host_numbers.specs.Boards.{heading_numbers}
use Rattle.lin_host_numbers.specs.Records.{record_of, bad_record}
use Rattle.lin_host_numbers.specs.declared.boards.LinHeading.{LinHeading}
use Rattle.lin_host_numbers.specs.declared.records.LinPbn.{LinPbn}
use Rattle.lin_host.specs.declared.converting.LinConverted.{LinConverted}

-- a heading with the length of its texts; a refusal has none
abbrev pub converted_numbers : Answer Converted → LinConverted
converted_numbers (Ok c) = record { heading = heading_numbers (Ok c.heading); len = c.len }
converted_numbers (Err r) = record { heading = heading_numbers (Err r); len = 0 }

-- a heading with the length of its texts, and the rows, the cards and the output afterwards
pub record Conversion : Type 0 where
  pub heading : LinHeading
  pub len : ℕ
  pub rows : List ℕ
  pub cards : List ℕ
  pub output : List ℕ

abbrev pub conversion_numbers : BoardConversion → Conversion
conversion_numbers c =
    let x = converted_numbers c.answer in
    record { heading = x.heading; len = x.len; rows = c.rows; cards = c.cards; output = c.output }

-- `from_board`, cleaning with "/" and space
abbrev pub from_board_numbers : (text : List ℕ) → LinPbn → (calls plays notes o rows cards : List ℕ) → Conversion
from_board_numbers s b ws ps ns o rows cards =
    conversion_numbers (convert_board (bad_record b) pipe_mark line_mark (pbn s (record_of b) ws ps ns) o rows cards)
