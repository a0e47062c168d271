-- `pbn_texts::put_kept_card` meets its contract: nothing, or one put.
use Rattle.output.proofs.Laws.{start, finish}
use Rattle.pbn_texts.proofs.CallLaws.{card-gap}
use Rattle.pbn_texts.proofs.calls.put_kept_card.Goals as goal

pub returns-then-b-eq-GAP : goal.returns-then-b-eq-GAP
returns-then-b-eq-GAP c = rw (card-gap c.args.b c.if-b-eq-GAP.true) (finish (start (rw (card-gap c.args.b c.if-b-eq-GAP.true) at c.requires)))
