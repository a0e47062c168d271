-- `writer_cards::sizes::is_rest` meets its contract. The loop's invariant: the remainder's cards passed are counted, and `held` says whether those of East are in it.
use Prim.Native.Nat.{◌+◌, ◌≤◌}
use mathlib.Core.Path.{◌≡◌}
use mathlib.Core.Bool.{◌&&◌}
use lib.ListN.{drop}
use Rattle.lin_spec.specs.Cards.{sum}
use Rattle.lin_spec.specs.Letters.{hand_at}
use Rattle.lin_spec.specs.Writer.{held_in}
use Rattle.lin_spec.specs.declared.Seat.TheVariants.{East}
use Rattle.writer_cards.specs.Hands.{rest_of}
use Rattle.writer_cards.proofs.sizes.is_rest.Given as goal

abbrev pub invariant-loop-c : goal.invariant-loop-c
invariant-loop-c l = (l.n + sum (drop l.c (rest_of l.counts)) ≡ sum (rest_of l.counts)) × ((l.held && held_in (drop l.c (hand_at l.counts East)) (drop l.c (rest_of l.counts))) ≡ held_in (hand_at l.counts East) (rest_of l.counts)) × (l.n ≤ l.c)
