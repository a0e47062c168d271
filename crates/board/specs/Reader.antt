-- The heading that is answered, and what refusal 3 asks. (01: Board; Eight refusals, 3)
use Rattle.lin_spec.specs.declared.Refusal.{Refusal}
use Rattle.std.specs.Prelude.{ℕ, ◌≤◌, ◌/◌, ◌≡◌, List, length, Err, Result, Ok}
use Rattle.lin_spec.specs.Refusals.{unless}
use Rattle.lin_spec.specs.Reading.{few_rows}
use Rattle.lin_spec.specs.declared.Heading.{Heading}
use Rattle.board_loop.specs.Head.{board_at}
use Rattle.board_loop.specs.Dealing.{dealt_from}
use Rattle.board_loop.specs.declared.heading.ReadHead.{ReadHead}

-- a heading that was read, with dealer and deal
abbrev pub with_deal : (s : List ℕ) → ReadHead → Heading
with_deal s h =
    record {
      board =
          record {
            names = h.names;
            dealer = (dealt_from s h.md).dealer;
            deal = record { counts = (dealt_from s h.md).deal };
            vulnerability = h.vulnerability;
            title = h.title;
            room_board = h.room;
            board_header = h.header;
            claim = h.claim;
          };
      calls = h.calls;
      cards = h.cards;
    }

-- places for the calls and cards of any board of so many bytes: an mb or a pc takes four bytes at least
pub record Places (n : ℕ) (rows cards : List ℕ) : Type 0 where
  pub calls : n / 4 ≤ length rows / 6
  pub play : n / 4 ≤ length cards

-- the board has places for all its calls and cards
pub record Ample (s : List ℕ) (at : ℕ) (rows cards : List ℕ) : Type 0 where
  pub calls : length (board_at s at).calls ≤ length rows / 6
  pub play : length (board_at s at).play ≤ length cards

-- refusal 3 does not meet the call, or is what it answers
abbrev pub CountedRows : (s : List ℕ) (at : ℕ) (rows cards : List ℕ) → Result Unit Refusal → Type 0
CountedRows s at rows cards (Ok tt) = Ample s at rows cards
CountedRows s at rows cards (Err r) = unless (few_rows (board_at s at) rows cards) (board_at s at) ≡ Err r
