-- `board_lent::bad_cards` meets its contract: a turn looks at a card.
use mathlib.Core.Path.{◌≡◌}
use mathlib.Core.Bool.{◌||◌}
use lib.ListN.{drop}
use lib.Dec.{ltb}
use Rattle.lin_spec.specs.Base.{any}
use Rattle.board_lent.proofs.checks.bad_cards.Given as goal

abbrev pub invariant-loop-card : goal.invariant-loop-card
invariant-loop-card l = (l.bad || any (ltb 51) (drop l.card-index l.cards)) ≡ any (ltb 51) l.cards
