-- `accents::marks::same_class` meets its contract. The loop's invariant: what is left is as much the same as the whole. The measure is what is left of the first.
use Rattle.accents.proofs.MarkLaws.{along_short, along_differ, along_next, along_end}
use Rattle.accents.proofs.marks.same_class.Goals as goal

pub returns-then-y-j : goal.returns-then-y-j
returns-then-y-j c = along_short _ c.args.x.now c.args.y.now _ _ c.loop-i.invariant c.loop-i-test.true c.if-y-j.true

pub returns-then-x-i : goal.returns-then-x-i
returns-then-x-i c = along_differ _ c.args.x.now c.args.y.now _ _ c.loop-i.invariant c.loop-i-test.true c.if-y-j.false c.if-x-i.true

pub loop-i-preserved : goal.loop-i-preserved
loop-i-preserved c = along_next _ c.args.x.now c.args.y.now _ _ c.loop-i.invariant c.loop-i-test.true c.if-y-j.false c.if-x-i.false _ _ c.next_in-i-in-loop-i.ensures c.next_in-j-in-loop-i.ensures

pub returns : goal.returns
returns c = along_end _ c.args.x.now c.args.y.now _ _ c.loop-i.invariant c.loop-i-test.false
