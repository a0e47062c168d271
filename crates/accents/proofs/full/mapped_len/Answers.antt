-- `accents::full::mapped_len` meets its contract. The loop's invariant: n are counted up to i. The measure is what is left of the length.
use Rattle.accents.proofs.FullLaws.{count-start, count_next, count-end}
use Rattle.accents.proofs.full.mapped_len.Goals as goal

pub loop-i-init : goal.loop-i-init
loop-i-init c = count-start _

pub loop-i-preserved : goal.loop-i-preserved
loop-i-preserved c = count_next c.args.s.now _ _ _ _ _ c.loop-i.invariant c.char_at-c.ensures c.full_of-f.ensures

pub returns : goal.returns
returns c = count-end c.args.s.now _ _ c.loop-i.invariant c.loop-i-test.false
