-- What a board's readers into rows of calls as structs are made of: their answer, one call at a time, the heading with the place of its calls. (01: Board,
-- `parse_lin`; File)
use Rattle.std.specs.Prelude.{ℕ, ◌<◌, ◌≤◌, ◌^◌, ◌≡◌, List, [], ◌∷◌, length, take, Option, Err, Ok}
use Rattle.lin_spec.specs.Refusals.{Answer, unless, too_long, not_utf8}
use Rattle.lin_spec.specs.Output.{overlay}
use Rattle.lin_spec.specs.Board.{CallOf, BoardOf}
use Rattle.lin_spec.specs.Reading.{stream, parse_spans, heading_of, too_few}
use Rattle.lin_spec.specs.File.{no_board, file_spans, numbered}
use Rattle.lin_spec.specs.declared.Span.{Span}
use Rattle.lin_spec.specs.declared.RowKind.TheVariants.{Calls, Cards}
use Rattle.lin_spec.specs.declared.Refusal.{Refusal}
use Rattle.rows.specs.declared.CallRow.{CallRow}
use Rattle.board_loop.specs.Calls.{calls_from}
use Rattle.board_loop.specs.Head.{board_at}
use Rattle.rows_steps.specs.declared.steps.Headed.{Headed}
use Rattle.rows.specs.Rows.{row_in, empty_row}

-- 3: "too few rows, calls before cards"
abbrev pub few_structs : BoardOf Span → (rows : ℕ) (cards : List ℕ) → List (Option Refusal)
few_structs b rows cards = too_few Calls rows (length b.calls) ∷ too_few Cards (length cards) (length b.play) ∷ []

-- `parse_lin` with this many rows, and the board of a number: "Reading: 1, 2, 4, 3."
abbrev pub text_answer : (s : List ℕ) (rows : ℕ) (cards : List ℕ) → Answer (BoardOf Span)
text_answer s rows cards = unless (too_long s ∷ not_utf8 s ∷ few_structs (parse_spans s) rows cards) (parse_spans s)

abbrev pub file_answer : (s : List ℕ) (number rows : ℕ) (cards : List ℕ) → Answer (BoardOf Span)
file_answer s n rows cards = unless (too_long s ∷ not_utf8 s ∷ no_board n (length (file_spans s)) ∷ few_structs (numbered s n) rows cards) (numbered s n)

-- What the parts of the code give

-- the next call of s from the place `at` on as a row, where there is one, and the place after it; else a row of no text, and the place stays
pub record StepsTo (s : List ℕ) (at : ℕ) (r : CallRow × ℕ) : Type 0 where
  pub next : (c : CallOf Span) (cs : List (CallOf Span)) → calls_from s (stream s at) ≡ c ∷ cs → (r.0 ≡ row_in c) × (calls_from s (stream s r.1) ≡ cs)
  pub none : calls_from s (stream s at) ≡ [] → r ≡ (empty_row, at)

-- the heading of the board b, with its cards stored; and its calls, which there are enough rows for, in the text s
pub record Heads (s : List ℕ) (b : BoardOf Span) (rows : ℕ) (cards : List ℕ) (h : Headed) (cards' : List ℕ) : Type 0 where
  pub heading : h.heading ≡ heading_of b
  pub stored : cards' ≡ overlay cards 0 b.play
  pub calls : take h.heading.calls (board_at (take h.stop s) h.start).calls ≡ b.calls
  pub fit : h.heading.calls ≤ rows
  pub many : h.heading.calls ≤ length (board_at (take h.stop s) h.start).calls
  pub within : (h.stop ≤ length s) × (length s < 2 ^ 32)

-- of the answer a: its board, or its refusal, which stores nothing
abbrev pub HeadsBy : (s : List ℕ) → Answer (BoardOf Span) → (rows : ℕ) (cards : List ℕ) → Answer Headed → (cards' : List ℕ) → Type 0
HeadsBy s a rows cards (Ok h) cards' = (b : BoardOf Span) × ((a ≡ Ok b) × Heads s b rows cards h cards')
HeadsBy s a rows cards (Err r) cards' = (a ≡ Err r) × (cards' ≡ cards)
