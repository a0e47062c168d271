-- `cards::seat_sum` meets its contract. The loop's invariant: the sum so far and that of what is left are the sum of the hand. (01: Records)
use Rattle.lin_spec.specs.Cards.{sum}
use lib.ListN.{drop}
use mathlib.Core.Path.{◌≡◌}
use Prim.Native.Nat.{◌+◌, ◌*◌, ◌^◌, ◌≤◌}
use Rattle.cards.proofs.hands.seat_sum.Given as goal

abbrev pub invariant-loop-count : goal.invariant-loop-count
invariant-loop-count l = (l.n + sum (drop l.count-index l.hand) ≡ sum l.hand) × (l.n ≤ l.count-index * 2 ^ 32)
