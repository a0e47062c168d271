-- A board without its rows, and a heading, as numbers. (01: Records; Board)
use Rattle.std.specs.Prelude.{ℕ, List, [], ◌∷◌, Option, None, Some, Err, Ok}
use Rattle.lin_spec.specs.Refusals.{Answer}
use Rattle.lin_spec.specs.Fresh.{fresh_board}
use Rattle.lin_spec.specs.Letters.{seat_number}
use Rattle.lin_spec.specs.Reading.{Reading as BoardReading}
use Rattle.lin_spec.specs.declared.Span.{Span}
use Rattle.lin_spec.specs.declared.Vulnerability.{Vulnerability}
use Rattle.lin_spec.specs.declared.Vulnerability.TheVariants.{NorthSouth, EastWest, Both}
use Rattle.lin_spec.specs.declared.Board.{Board}
use Rattle.lin_spec.specs.declared.Heading.{Heading}
use Rattle.lin_host_numbers.specs.Answers.{numbers_of}
use Rattle.lin_host_numbers.specs.declared.boards.LinText.{LinText}
use Rattle.lin_host_numbers.specs.declared.boards.LinBoard.{LinBoard}
use Rattle.lin_host_numbers.specs.declared.boards.LinHeading.{LinHeading}

abbrev pub vulnerability_number : Vulnerability → ℕ
vulnerability_number Vulnerability.None = 0
vulnerability_number NorthSouth = 1
vulnerability_number EastWest = 2
vulnerability_number Both = 3

-- the start and the length of each span
unfoldable pub place_numbers : List Span → List ℕ
place_numbers [] = []
place_numbers (x ∷ xs) = x.start ∷ x.len ∷ place_numbers xs

-- "a span or absent": absent is 0, 0, 0
abbrev pub text_numbers : Option Span → LinText
text_numbers None = record { present = 0; start = 0; len = 0 }
text_numbers (Some x) = record { present = 1; start = x.start; len = x.len }

-- "claim 0 to 255 or absent": absent is 0, 0
abbrev pub claim_flag : Option ℕ → ℕ
claim_flag None = 0
claim_flag (Some n) = 1

abbrev pub claim_number : Option ℕ → ℕ
claim_number None = 0
claim_number (Some n) = n

-- a board without its rows
unfoldable pub board_numbers : Board → LinBoard
board_numbers b =
    record {
      names = place_numbers b.names;
      dealer = seat_number b.dealer;
      vulnerability = vulnerability_number b.vulnerability;
      title = text_numbers b.title;
      room_board = text_numbers b.room_board;
      board_header = text_numbers b.board_header;
      claimed = claim_flag b.claim;
      claim = claim_number b.claim;
      counts = b.deal.counts;
    }

-- "everything but rows, with the numbers of calls and cards"; a refusal has a fresh board, and none
unfoldable pub heading_numbers : Answer Heading → LinHeading
heading_numbers (Ok h) = record { answer = numbers_of (Ok 0); calls = h.calls; cards = h.cards; board = board_numbers h.board }
heading_numbers (Err r) = record { answer = numbers_of (Err r); calls = 0; cards = 0; board = board_numbers fresh_board }

-- a heading, and the rows and cards afterwards
pub record Reading : Type 0 where
  pub heading : LinHeading
  pub rows : List ℕ
  pub cards : List ℕ

abbrev pub reading_numbers : BoardReading → Reading
reading_numbers r = record { heading = heading_numbers r.heading; rows = r.rows; cards = r.cards }
