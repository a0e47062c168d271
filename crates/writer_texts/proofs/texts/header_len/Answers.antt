-- `writer_texts::header_len` meets its contract: nothing, or the length of one put.
use Rattle.writer_texts.proofs.TextLaws.{header-long}
use native.Mathlib.Omega.{arith}
use Rattle.writer_texts.proofs.texts.header_len.Goals as goal

pub returns-in-Some : goal.returns-in-Some
returns-in-Some c = λ p q. omega (arith, header-long p q c.args.text.now c.args.x c.in-Some.y c.in-Some.is, c.clean_len.ensures, c.sat_add.ensures)
