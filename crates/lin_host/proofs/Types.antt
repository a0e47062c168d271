-- The third demand for any list of calls of the entries `append` and `append_rows` and of the export `lin_append`, with nothing assumed of what they are lent:
-- each board is a value of its declared type. (01: Records; Writer, "For the third demand ..")
-- Assumes nothing.
use Prim.Native.Nat.{ℕ}
use mathlib.Core.List.{List, [], ◌∷◌, map}
use mir.Val.{Val}
use denote.Laws.{Is}
use denote.Struct.Declared.{row}
use Rattle.lin_spec.specs.Base.{All}
use Rattle.lin_spec.specs.Lent.{lent}
use Rattle.lin_spec.specs.declared.Board.{Board}
use Rattle.lin_spec.specs.contracts.Board as board
use Rattle.lin_spec.proofs.BoardType.{board_typed}
use Rattle.rows.specs.declared.CallRow.{CallRow}
use Rattle.rows.specs.Rows.{lent_rows}
use Rattle.rows.proofs.RowType.{rows_typed}
use Rattle.lin_host_numbers.specs.declared.boards.LinBoard.{LinBoard}
use Rattle.lin_host_numbers.specs.contracts.boards.LinBoard as numbers
use Rattle.lin_host.specs.Mixed.{Appending, TypedNumbers, TypedCall, ThirdDemandMixed}
use Rattle.lin_host.specs.Mixed.Appending.{entry, export}
use Rattle.lin_host.proofs.Mixed.{third_demand_mixed}

-- the type of the export's board: eight words for the names, 208 counts
pub numbers_typed : (b : LinBoard) (vs : List Val) → Is (row numbers.the_type) b vs → TypedNumbers b
numbers_typed b vs h =
    record {
      names = h.1.1.0.1.0.1;
      counts = h.1.1.1.1.1.1.1.1.1.1.0.1.0.1;
    }

-- a call of any of the three, with a board that some machine values `vs` hold
pub data Call : Type 0 where
  by-entry : (text : List ℕ) (b : Board) (words cards : List ℕ) (vs : List Val) → Is (row board.the_type) b vs → Call
  by_rows : (text : List ℕ) (b : Board) (rows : List CallRow) (cards : List ℕ) (vs : List Val) → Is (row board.the_type) b vs → Call
  by-export : (text : List ℕ) (b : LinBoard) (words cards : List ℕ) (vs : List Val) → Is (row numbers.the_type) b vs → Call

abbrev pub lends : Call → Appending
lends (by-entry s b ws cs vs h) = entry (lent s b ws cs)
lends (by_rows s b rs cs vs h) = entry (lent_rows s b rs cs)
lends (by-export s b ws cs vs h) = export s b ws cs

calls_typed : (cs : List Call) → All TypedCall (map lends cs)
calls_typed [] = tt
calls_typed (by-entry s b ws cards vs h ∷ cs) = (board_typed b vs h s ws cards, calls_typed cs)
calls_typed (by_rows s b rs cards vs h ∷ cs) = (rows_typed b vs h s rs cards, calls_typed cs)
calls_typed (by-export s b ws cards vs h ∷ cs) = (numbers_typed b vs h, calls_typed cs)

pub third_demand_calls : (o : List ℕ) (cs : List Call) → ThirdDemandMixed o (map lends cs)
third_demand_calls o cs = third_demand_mixed o (map lends cs) (calls_typed cs)
