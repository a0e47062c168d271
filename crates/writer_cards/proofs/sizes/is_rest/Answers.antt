-- `writer_cards::sizes::is_rest` meets its contract. The loop's invariant: the remainder's cards passed are counted, and `held` says whether those of East are in it.
use native.Mathlib.Nat.{zero-add}
use native.Mathlib.Omega.{arith}
use mathlib.Core.Path.{refl}
use Rattle.lin_spec.specs.Letters.{hand_at}
use Rattle.lin_spec.specs.declared.Seat.TheVariants.{East}
use Rattle.cards.proofs.HandLaws.{sum-next, sum-end, count_at, counts_most}
use Rattle.writer_cards.specs.Hands.{rest_of}
use Rattle.writer_cards.proofs.EastLaws.{rest-long, held-turn, held-end, rest-is}
use Rattle.writer_cards.proofs.sizes.is_rest.Goals as goal

pub loop-c-init : goal.loop-c-init
loop-c-init c = (zero-add _, refl, omega arith)

pub remainder_count-free-requires : goal.remainder_count-free-requires
remainder_count-free-requires c = (omega arith, c.requires)

pub overflow_add-n : goal.overflow_add-n
overflow_add-n c = omega (arith, c.remainder_count-free.ensures.1)

pub loop-c-preserved : goal.loop-c-preserved
loop-c-preserved c = let d = c.args.counts.now in
    let i = c.loop-c.c in
    let v = c.loop-c.invariant in
    (sum-next _ _ _ _ v.0 c.remainder_count-free.ensures.0, held-turn (hand_at d East) (rest_of d) i _ _ (count_at d 156 52 i c.loop-c-test.true) c.remainder_count-free.ensures.0 c.loop-c.held v.1, omega (arith, c.remainder_count-free.ensures.1))

pub returns : goal.returns
returns c = let d = c.args.counts.now in
    let i = c.loop-c.c in
    let v = c.loop-c.invariant in
    rest-is _ _ _ _ (held-end (hand_at d East) (rest_of d) i (omega (arith, counts_most d 156 52)) _ v.1) _ (sum-end (rest_of d) i _ v.0 (omega (arith, rest-long d c.requires)))
