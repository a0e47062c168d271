-- A board read into rows of calls as structs. (01: Board, `parse_lin`; File; Records, "The calls stand in a list of rows lent by the caller")
use Rattle.std.specs.Prelude.{ℕ, List, map, length, Err, Ok}
use Rattle.lin_spec.specs.Refusals.{Answer}
use Rattle.lin_spec.specs.Output.{overlay}
use Rattle.lin_spec.specs.Board.{BoardOf}
use Rattle.lin_spec.specs.Reading.{heading_of}
use Rattle.lin_spec.specs.declared.Span.{Span}
use Rattle.lin_spec.specs.declared.Heading.{Heading}
use Rattle.rows.specs.declared.CallRow.{CallRow}
use Rattle.rows.specs.Rows.{row_in, laid_over}
use Rattle.rows_steps.specs.Steps.{text_answer, file_answer}

-- the heading or the refusal, and the rows and cards afterwards
pub record RowReading : Type 0 where
  pub heading : Answer Heading
  pub rows : List CallRow
  pub cards : List ℕ

-- "All lent memory stays. Rows and bytes not named by a success stay too."
abbrev pub stored_rows : Answer (BoardOf Span) → (rows : List CallRow) (cards : List ℕ) → RowReading
stored_rows (Err r) rows cards = record { heading = Err r; rows = rows; cards = cards }
stored_rows (Ok b) rows cards = record { heading = Ok (heading_of b); rows = laid_over (map row_in b.calls) rows; cards = overlay cards 0 b.play }

unfoldable pub read_rows : (s : List ℕ) (rows : List CallRow) (cards : List ℕ) → RowReading
read_rows s rows cards = stored_rows (text_answer s (length rows) cards) rows cards

unfoldable pub file_rows : (s : List ℕ) (number : ℕ) (rows : List CallRow) (cards : List ℕ) → RowReading
file_rows s n rows cards = stored_rows (file_answer s n (length rows) cards) rows cards
