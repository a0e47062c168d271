-- `board_lent::bad_cards` meets its contract: a turn looks at a card.
use mathlib.Core.Path.{refl}
use lib.Dec.{ltb}
use Rattle.board_lent.proofs.LentLaws.{all-each, or_each}
use Rattle.board_lent.proofs.checks.bad_cards.Goals as goal

pub loop-card-preserved : goal.loop-card-preserved
loop-card-preserved c = or_each (ltb 51) 0 _ _ c.loop-card.bad c.loop-card.invariant c.loop-card-test.true _ refl

pub returns : goal.returns
returns c = all-each (ltb 51) 0 _ _ _ c.loop-card.invariant c.loop-card-test.false
