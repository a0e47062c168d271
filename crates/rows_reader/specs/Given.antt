-- What a reading into rows of calls as structs gives, for the third demand. (01: Writer, "For the third demand ..")
use Rattle.std.specs.Prelude.{ℕ, ◌≡◌, List, length, take, Ok}
use Rattle.lin_spec.specs.Board.{BoardOf}
use Rattle.lin_spec.specs.Lent.{Lent, meaning, Lendable}
use Rattle.rows.specs.Rows.{lent_rows}
use Rattle.rows.specs.declared.CallRow.{CallRow}
use Rattle.lin_spec.specs.declared.Heading.{Heading}
use Rattle.rows_reader.specs.Reader.{RowReading}

-- what a reader gave over the bytes t, lent again with as many rows and cards as it says
abbrev pub again_rows : (t : List ℕ) → Heading → List CallRow → (cards : List ℕ) → Lent
again_rows t h rows cards = lent_rows t h.board (take h.calls rows) (take h.cards cards)

-- a reader's answer over the bytes t is no refusal and gives the board b: lent again it means b, and none of 8, 5 and 6 meets it
pub record GivesRows (t : List ℕ) (b : BoardOf (List ℕ)) (r : RowReading) : Type 0 where
  pub heading : Heading
  pub given : r.heading ≡ Ok heading
  pub calls : heading.calls ≡ length b.calls
  pub cards : heading.cards ≡ length b.play
  pub board : meaning (again_rows t heading r.rows r.cards) ≡ b
  pub lendable : Lendable (again_rows t heading r.rows r.cards)
