-- `board_loop::read_head` meets its contract: a turn takes one token off those that are still to be read.
use Prim.Native.Nat.{◌-◌}
use lib.ListN.{length}
use Rattle.board_loop.proofs.HeadLaws.{Reads}
use Rattle.board_loop.proofs.heading.read_head.Given as goal

abbrev pub invariant-loop-next : goal.invariant-loop-next
invariant-loop-next l = Reads l.text l.at l.h l.c

abbrev pub decreases-loop-next : goal.decreases-loop-next
decreases-loop-next l = length l.text - l.c
