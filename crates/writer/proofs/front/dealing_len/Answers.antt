-- `writer::dealing_len` meets its contract: the sum of the lengths of the pieces.
use Rattle.board_lent.specs.Heads.{board_of}
use Rattle.writer.proofs.PieceLaws.{dealing_long}
use native.Mathlib.Omega.{arith}
use Rattle.writer.proofs.front.dealing_len.Goals as goal

pub returns : goal.returns
returns c = λ head counts z. omega (arith, dealing_long (board_of head counts), c.md_len.ensures counts z head.dealer, c.sat_add.ensures)
