-- `writer_texts::put_text` meets its contract: nothing, or one put.
use Rattle.output.proofs.Laws.{start, finish}
use Rattle.writer_texts.proofs.TextLaws.{clean-nil}
use Rattle.writer_texts.proofs.texts.put_text.Goals as goal

pub returns-in-None : goal.returns-in-None
returns-in-None c = rw (c.in-None.is, clean-nil) (finish (start (rw (c.in-None.is, clean-nil) at c.requires)))
