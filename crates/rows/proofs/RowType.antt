-- What the type of a board says of one that is lent with its calls in rows: four names, 208 counts, a claim of one byte. (01: Records)
-- Assumes nothing.
use Prim.Native.Nat.{ℕ}
use mathlib.Core.List.{List, []}
use mir.Val.{Val}
use denote.Laws.{Is}
use denote.Struct.Declared.{row}
use Rattle.lin_spec.specs.ThirdDemand.{Typed}
use Rattle.lin_spec.specs.declared.Board.{Board}
use Rattle.lin_spec.specs.contracts.Board as board
use Rattle.lin_spec.proofs.BoardType.{board_typed}
use Rattle.rows.specs.declared.CallRow.{CallRow}
use Rattle.rows.specs.Rows.{lent_rows}

pub rows_typed : (b : Board) (vs : List Val) → Is (row board.the_type) b vs → (s : List ℕ) (rs : List CallRow) (cs : List ℕ) → Typed (lent_rows s b rs cs)
rows_typed b vs h s rs cs = let t = board_typed b vs h s [] cs in record { names = t.names; counts = t.counts; claim = t.claim }
