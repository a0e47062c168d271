-- `accents::marks::same_classes` meets its contract. The loop's invariant: the classes so far are the same.
use Rattle.accents.specs.Marks.{ranks as the_ranks}
use Rattle.accents.proofs.MarkLaws.{class_differs, ranks-next, ranks-end}
use Rattle.accents.proofs.marks.same_classes.Goals as goal

pub returns-then-not-same_class : goal.returns-then-not-same_class
returns-then-not-same_class c = class_differs _ c.args.x.now c.args.y.now _ c.same_class.ensures c.if-not-same_class.true

pub loop-k-preserved : goal.loop-k-preserved
unfolding the_ranks
loop-k-preserved c = ranks-next c.args.x.now c.args.y.now c.loop-k.k-index _ c.loop-k-test.true c.same_class.ensures c.if-not-same_class.false c.loop-k.invariant

pub returns : goal.returns
returns c = ranks-end c.args.x.now c.args.y.now c.loop-k.k-index c.loop-k-test.false c.loop-k.invariant
