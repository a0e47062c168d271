-- `writer_cards::hands::put_ranks` meets its contract: a turn takes one rank off what is left to write.
use native.Mathlib.Omega.{arith}
use mathlib.Core.Path.{refl}
use Rattle.output.proofs.Laws.{roomy, step, finish}
use Rattle.writer_cards.proofs.HandLaws.{ranks-left, ranks-end}
use Rattle.writer_cards.proofs.hands.put_ranks.Goals as goal

pub put_repeated-o-requires : goal.put_repeated-o-requires
put_repeated-o-requires c = let a = c.args in
    roomy _ _ (ranks-left a.counts.now a.seat a.suit c.loop-r.r _ _ c.loop-r-test.true (omega arith) c.requires.2 refl c.rank_letter.ensures c.loop-r.invariant)

pub loop-r-preserved : goal.loop-r-preserved
loop-r-preserved c = let a = c.args in
    step (ranks-left a.counts.now a.seat a.suit c.loop-r.r _ _ c.loop-r-test.true (omega arith) c.requires.2 refl c.rank_letter.ensures c.loop-r.invariant) c.put_repeated-o.ensures

pub returns : goal.returns
returns c = finish (rw (ranks-end _ _ _ c.loop-r-test.false) at c.loop-r.invariant)
