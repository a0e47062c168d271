-- `writer_texts::put_ah` meets its contract: nothing, or one put.
use Rattle.output.proofs.Laws.{start, finish}
use Rattle.writer_texts.proofs.TextLaws.{header-some}
use Rattle.writer_texts.proofs.texts.put_ah.Goals as goal

pub put_after-requires : goal.put_after-requires
put_after-requires c = rw (c.in-Some.is, header-some) at c.requires

pub returns-in-None : goal.returns-in-None
returns-in-None c = rw c.in-None.is (finish (start (rw c.in-None.is at c.requires)))

pub returns-in-Some : goal.returns-in-Some
returns-in-Some c = rw (c.in-Some.is, header-some) c.put_after.ensures
