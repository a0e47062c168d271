-- `pbn_texts::put_uncleaned` meets its contract: nothing, or one put.
use Rattle.output.proofs.Laws.{start, finish}
use Rattle.pbn_texts.proofs.texts.put_uncleaned.Goals as goal

pub returns-in-None : goal.returns-in-None
returns-in-None c = rw c.in-None.is (finish (start (rw c.in-None.is at c.requires)))
