-- `cards::seat_sum` meets its contract. The loop's invariant: the sum so far and that of what is left are the sum of the hand. (01: Records)
use Prim.Native.Nat.{◌-◌, ◌*◌, ◌+◌}
use mathlib.Core.Path.{refl}
use lib.ListN.{drop, length-take}
use Rattle.cards.proofs.HandLaws.{sum-next, sum-end, sum-hand}
use borrow.Author.Rules.{rules}
use native.Mathlib.Omega.{arith}
use Rattle.cards.proofs.hands.seat_sum.Goals as goal

pub loop-count-preserved : goal.loop-count-preserved
loop-count-preserved c = (sum-next _ _ _ _ c.loop-count.invariant.0 refl, search rules)

pub returns : goal.returns
returns c =
    let f = c.number-first.result * 52 in
    (sum-hand c.args.counts.now _ _ _ c.number-first.ensures.0 (sum-end _ c.loop-count.count-index _ c.loop-count.invariant.0 c.loop-count-test.false), omega (arith, length-take (f + 52 - f) (drop f c.args.counts.now)))
