-- `file_sections::next_number` meets its contract.
use Prim.Native.Nat.{◌+◌}
use Rattle.file_sections.proofs.SectionLaws.{number-stays, number_more}
use native.Mathlib.Omega.{arith}
use Rattle.file_sections.proofs.sections.next_number.Goals as goal

pub returns-then-not-board : goal.returns-then-not-board
returns-then-not-board c = let a = c.args in number-stays a.number a.board c.if-not-board.true-raw

pub returns-then-number-lt18446744073709551615 : goal.returns-then-number-lt18446744073709551615
returns-then-number-lt18446744073709551615 c = let a = c.args in number_more a.number (a.number + 1) a.board c.if-not-board.false-raw (omega arith)

pub returns : goal.returns
returns c = let a = c.args in number_more a.number a.number a.board c.if-not-board.false-raw (omega arith)
