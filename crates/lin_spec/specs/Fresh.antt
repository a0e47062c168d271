-- A deal and a board before the first token, as the declared types hold them. (01: Records; Board, "Start ..")
use Rattle.std.specs.Prelude.{[], ◌∷◌, replicate, None}
use Rattle.lin_spec.specs.Records.{span}
use Rattle.lin_spec.specs.declared.Seat.TheVariants.{North}
use Rattle.lin_spec.specs.declared.Vulnerability.{Vulnerability}
use Rattle.lin_spec.specs.declared.Deal.{Deal}
use Rattle.lin_spec.specs.declared.Board.{Board}

-- "a fresh one holds 208 zeros"
abbrev pub fresh_deal : Deal
fresh_deal = record { counts = replicate 208 0 }

-- "empty names (start 0, length 0), dealer North, empty deal, none vulnerable, the rest absent or empty"
abbrev pub fresh_board : Board
fresh_board =
    record {
      names = span 0 0 ∷ span 0 0 ∷ span 0 0 ∷ span 0 0 ∷ [];
      dealer = North;
      deal = fresh_deal;
      vulnerability = Vulnerability.None;
      title = None;
      room_board = None;
      board_header = None;
      claim = None;
    }
