-- `output::put_all`: the elements before this one are put, and those from it on are left.
use Prim.Native.Nat.{◌+◌}
use lib.ListN.{drop}
use Rattle.output.proofs.Laws.{Left}
use Rattle.output.proofs.put_all.Given as goal

abbrev pub invariant-loop-j : goal.invariant-loop-j
invariant-loop-j g l = Left l.out (l.at + l.j) (drop l.j l.s) l.initial.out l.at l.s
