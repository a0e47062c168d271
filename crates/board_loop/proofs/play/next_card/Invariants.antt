-- `board_loop::next_card` meets its contract: a turn takes a token without a card off those that are still to be read.
use Rattle.board_loop.specs.Play.{cards_from}
use Rattle.lin_spec.specs.Reading.{stream}
use lib.ListN.{length}
use mathlib.Core.Path.{◌≡◌}
use Prim.Native.Nat.{◌-◌}
use Rattle.board_loop.proofs.play.next_card.Given as goal

abbrev pub invariant-loop-k : goal.invariant-loop-k
invariant-loop-k l = cards_from l.text (stream l.text l.c.at) ≡ cards_from l.text (stream l.text l.initial.c.at)

abbrev pub decreases-loop-k : goal.decreases-loop-k
decreases-loop-k l = length l.text - l.c.at
