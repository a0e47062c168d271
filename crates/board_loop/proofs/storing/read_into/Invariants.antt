-- `board_loop::read_into` meets its contract: a turn takes one token off those that are still to be read, and stores what it gives.
use Prim.Native.Nat.{◌-◌}
use lib.ListN.{length}
use Rattle.board_loop.proofs.StoringLaws.{Into}
use Rattle.board_loop.proofs.storing.read_into.Given as goal

abbrev pub invariant-loop-card : goal.invariant-loop-card
invariant-loop-card l = Into l.text l.at l.initial.rows l.initial.cards l.rows l.cards l.h l.c

abbrev pub decreases-loop-card : goal.decreases-loop-card
decreases-loop-card l = length l.text - l.c
