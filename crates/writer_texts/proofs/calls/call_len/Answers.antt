-- `writer_texts::call_len` meets its contract: the sum of the lengths of the pieces.
use Rattle.writer_texts.proofs.CallLaws.{call_long}
use native.Mathlib.Omega.{arith}
use Rattle.writer_texts.proofs.calls.call_len.Goals as goal

pub returns : goal.returns
returns c = λ p q. omega (arith, call_long p q c.args.text.now c.args.c, c.clean_len.ensures, c.sat_add-a.ensures, c.alert_len.ensures, c.sat_add-b.ensures, c.an_len.ensures p q, c.sat_add.ensures)
