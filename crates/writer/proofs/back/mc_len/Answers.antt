-- `writer::mc_len` meets its contract: nothing, or the length of one put.
use Rattle.writer.proofs.PieceLaws.{claim-long}
use native.Mathlib.Omega.{arith}
use Rattle.writer.proofs.back.mc_len.Goals as goal

pub returns-in-None : goal.returns-in-None
returns-in-None c = rw c.in-None.is (omega arith)

pub returns-in-Some : goal.returns-in-Some
returns-in-Some c = omega (arith, claim-long c.args.claim c.in-Some.n c.in-Some.is, c.decimal_len.ensures, c.sat_add.ensures)
