-- `cards::hands::count_rest` meets its contract. The loop's invariant: the counts passed stand in East's place.
use mathlib.Core.Path.{◌≡◌}
use lib.Seq.{paste}
use Rattle.lin_spec.specs.Cards.{unheld_cards}
use Rattle.cards.specs.Deals.{hand_of}
use Rattle.cards.proofs.hands.count_rest.Given as goal

abbrev pub invariant-loop-c : goal.invariant-loop-c
invariant-loop-c l = l.counts ≡ paste l.initial.counts 156 (unheld_cards (hand_of l.initial.counts 0) (hand_of l.initial.counts 1) (hand_of l.initial.counts 2)) l.c
