-- `pbn_texts::put_one` meets its contract: nothing, or one put.
use Rattle.output.proofs.Laws.{start, finish}
use Rattle.pbn_texts.proofs.NameLaws.{name_absent}
use Rattle.pbn_texts.proofs.names.put_one.Goals as goal

pub returns-in-None : goal.returns-in-None
returns-in-None c = rw (name_absent c.args.marks.pipe c.args.marks.line c.args.text.now c.args.x c.in-None.is) (finish (start (rw (name_absent c.args.marks.pipe c.args.marks.line c.args.text.now c.args.x c.in-None.is) at c.requires)))
