-- A board in two parts: its deal, and all else. (01: Records)
use Rattle.std.specs.Prelude.{ℕ, List, ◌++◌}
use Rattle.lin_spec.specs.Lent.{span_in}
use Rattle.lin_spec.specs.declared.Span.{Span}
use Rattle.lin_spec.specs.declared.Board.{Board}
use Rattle.board_lent.specs.declared.heads.Head.{Head}

abbrev pub head_of : Board → Head
head_of b =
    record {
      names = b.names;
      dealer = b.dealer;
      vulnerability = b.vulnerability;
      title = b.title;
      room_board = b.room_board;
      board_header = b.board_header;
      claim = b.claim;
    }

abbrev pub board_of : Head → (counts : List ℕ) → Board
board_of h cs =
    record {
      names = h.names;
      dealer = h.dealer;
      deal = record { counts = cs };
      vulnerability = h.vulnerability;
      title = h.title;
      room_board = h.room_board;
      board_header = h.board_header;
      claim = h.claim;
    }

-- the spans that it names
abbrev pub head_spans : Head → List Span
head_spans h = h.names ++ (span_in h.title ++ (span_in h.room_board ++ span_in h.board_header))
