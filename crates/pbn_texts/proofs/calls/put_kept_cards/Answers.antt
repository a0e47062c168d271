-- `pbn_texts::put_kept_cards` meets its contract: a turn takes one entry off those that are left to store.
use Rattle.output.proofs.Laws.{roomy, step, finish}
use Rattle.pbn_texts.proofs.CallLaws.{cards-left, cards-end}
use Rattle.pbn_texts.proofs.calls.put_kept_cards.Goals as goal

pub put_kept_card-n-requires : goal.put_kept_card-n-requires
put_kept_card-n-requires c = roomy _ _ (cards-left _ _ c.loop-b-test.true c.loop-b.invariant)

pub loop-b-preserved : goal.loop-b-preserved
loop-b-preserved c = step (cards-left _ _ c.loop-b-test.true c.loop-b.invariant) c.put_kept_card-n.ensures

pub returns : goal.returns
returns c = finish (rw (cards-end _ c.loop-b.b-index c.loop-b-test.false) at c.loop-b.invariant)
