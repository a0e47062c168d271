-- `pbn_texts::put_pbn_bid` meets its contract: by the kind of call.
use Rattle.output.proofs.Laws.{start, finish}
use Rattle.pbn_texts.proofs.CallLaws.{bid-none}
use Rattle.pbn_texts.proofs.calls.put_pbn_bid.Goals as goal

pub returns : goal.returns
returns c = rw (bid-none c.args.c c.if-c-eq0.false c.if-c-eq1.false c.if-c-eq2.false c.if-c-eq3.false) (finish (start (rw (bid-none c.args.c c.if-c-eq0.false c.if-c-eq1.false c.if-c-eq2.false c.if-c-eq3.false) at c.requires.0)))
