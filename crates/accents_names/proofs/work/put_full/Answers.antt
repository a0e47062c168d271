-- `accents_names::work::put_full` meets its contract: one put after the other.
use Rattle.accents_names.proofs.FillLaws.{two_put, three_put}
use Rattle.accents_names.proofs.work.put_full.Goals as goal

pub returns-then-f-eq2 : goal.returns-then-f-eq2
returns-then-f-eq2 c = two_put _ _ _ c.requires c.put-n.ensures c.if-f-eq1.false c.put-m.ensures c.if-f-eq2.true

pub returns : goal.returns
returns c = three_put _ _ _ c.requires c.put-n.ensures c.if-f-eq1.false c.put-m.ensures c.if-f-eq2.false c.put.ensures
