-- `writer::back_len` meets its contract: the sum of the lengths of the pieces.
use native.Mathlib.Omega.{arith}
use Rattle.writer.proofs.PieceLaws.{back_long}
use Rattle.writer.proofs.back.back_len.Goals as goal

pub returns : goal.returns
returns c = omega (arith, back_long c.args.claim c.args.cards.now, c.tricks_len.ensures, c.sat_add-a.ensures, c.mc_len.ensures, c.sat_add.ensures)
