-- `cards::hands::count_field` meets its contract. The loop's invariant: at the seat's place stands a hand of which the rest of the field makes
-- what the whole makes of none, with no more cards counted than bytes are passed. (01: Board, md)
use Prim.Native.Nat.{◌+◌, ◌-◌, ◌*◌}
use native.Mathlib.Omega.{arith}
use mathlib.Core.Path.{◌≡◌}
use lib.ListN.{length}
use Rattle.cards.proofs.HandLaws.{small, fielded_start, fielded_few, fielded_suit, fielded_card, fielded_comma, fielded_skip, fielded_end, comma_suit, comma_rank}
use Rattle.cards.proofs.hands.count_field.Goals as goal
use Rattle.cards.proofs.hands.count_field.Goals.{then-n-lt4, else-n-lt4+then-suit-n, else-n-lt4+else-suit-n+else-s-i-eq44}

pub loop-i-init : goal.loop-i-init
loop-i-init c = fielded_start _ _ _ _ c.requires.2 c.requires.3

pub overflow_add-counts : goal.overflow_add-counts
overflow_add-counts c =
    let p = small c.loop-i.suit c.letter_number-n.result c.if-suit-n.true in
    omega (arith, fielded_few _ _ _ _ _ _ _ c.loop-i.invariant c.requires.2 (c.loop-i.suit * 13 + (c.letter_number-n.result - 4)) (omega arith))

pub returns-then-s-i-eq44 : goal.returns-then-s-i-eq44
returns-then-s-i-eq44 c = fielded_comma _ _ _ _ _ _ _ c.loop-i.invariant c.requires.2 c.loop-i-test.true c.if-s-i-eq44.true

pub loop-i-preserved : goal.loop-i-preserved
loop-i-preserved c =
    elim c.if-n-lt4.branch [
      | then-n-lt4 w ↦ rw (w.counts-is, w.suit-is) (fielded_suit _ _ _ _ _ _ _ c.loop-i.invariant c.requires.2 _ c.loop-i-test.true c.letter_number-n.ensures (comma_suit _ _ c.letter_number-n.ensures.0 w.if-n-lt4.true) w.if-n-lt4.true)
      | else-n-lt4+then-suit-n w ↦ rw (w.counts-is, w.suit-is) (fielded_card _ _ _ _ _ _ _ c.loop-i.invariant c.requires.2 _ c.loop-i-test.true c.letter_number-n.ensures (comma_rank _ _ c.letter_number-n.ensures.1 w.if-n-lt4.false (small _ _ w.if-suit-n.true).1) w.if-n-lt4.false w.if-suit-n.true)
      | else-n-lt4+else-suit-n+else-s-i-eq44 w ↦ rw (w.counts-is, w.suit-is) (fielded_skip _ _ _ _ _ _ _ c.loop-i.invariant c.requires.2 _ c.loop-i-test.true c.letter_number-n.ensures w.if-s-i-eq44.false w.if-n-lt4.false w.if-suit-n.false)
    ]

pub returns : goal.returns
returns c = let e : length c.args.s.now ≡ c.loop-i.i = omega arith in rw e (fielded_end _ _ _ _ _ _ _ c.loop-i.invariant c.requires.2 c.loop-i-test.false)
