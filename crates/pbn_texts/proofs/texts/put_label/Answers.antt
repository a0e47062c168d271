-- `pbn_texts::put_label` meets its contract: by the kind of label.
use Rattle.output.proofs.Laws.{start, finish}
use Rattle.pbn_texts.proofs.texts.put_label.Goals as goal

pub returns-in-None : goal.returns-in-None
returns-in-None c = rw c.in-None.is (finish (start (rw c.in-None.is at c.requires)))
