-- `writer_texts::an_len` meets its contract: by the flag.
use mathlib.Core.Path.{ap}
use lib.ListN.{length}
use Rattle.lin_spec.specs.Base.{ascii}
use Rattle.lin_spec.specs.Records.{bytes_at}
use Rattle.writer_texts.proofs.TextLaws.{after-length}
use Rattle.writer_texts.proofs.CallLaws.{annotation-some}
use native.Mathlib.Omega.{arith}
use Rattle.writer_texts.proofs.calls.an_len.Goals as goal

pub returns : goal.returns
returns c = λ p q. omega (arith, ap length (annotation-some p q c.args.text.now c.args.c c.if-c-eq0.false), after-length p q (ascii "an|") (bytes_at c.args.text.now c.args.c.annotation), c.clean_len.ensures, c.sat_add.ensures)
