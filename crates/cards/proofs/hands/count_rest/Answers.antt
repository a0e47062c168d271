-- `cards::hands::count_rest` meets its contract. The loop's invariant: the counts passed stand in East's place.
use native.Mathlib.Omega.{arith}
use lib.Seq.{paste-zero}
use Rattle.lin_spec.specs.Cards.{unheld_cards}
use Rattle.cards.specs.Deals.{hand_of}
use Rattle.cards.proofs.DealLaws.{rest-turn, rest_end}
use Rattle.cards.proofs.hands.count_rest.Goals as goal

pub loop-c-init : goal.loop-c-init
loop-c-init c = let d = c.args.counts.now in paste-zero d 156 (unheld_cards (hand_of d 0) (hand_of d 1) (hand_of d 2))

pub loop-c-preserved : goal.loop-c-preserved
loop-c-preserved c = rest-turn _ c.requires _ _ _ c.loop-c.invariant c.loop-c-test.true c.unheld.ensures

pub returns : goal.returns
returns c = rest_end _ c.requires _ c.loop-c.c c.loop-c.invariant (omega arith)
