-- `writer_texts::put_kept` meets its contract: a comma is left out.
use Rattle.writer_texts.proofs.TextLaws.{kept_comma}
use Rattle.output.proofs.Laws.{start, finish}
use Rattle.writer_texts.proofs.names.put_kept.Goals as goal

pub returns-then-b-eq44 : goal.returns-then-b-eq44
returns-then-b-eq44 c = rw (kept_comma _ c.if-b-eq44.true) (finish (start (rw (kept_comma _ c.if-b-eq44.true) at c.requires)))
