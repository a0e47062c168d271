-- `accents_names::work::put_mapped` meets its contract. The loop's invariant: what is left to put is what the rest from i on is mapped to. The measure is what is left of the length.
use Prim.Native.Nat.{◌-◌}
use lib.ListN.{length, drop}
use Rattle.output.proofs.Laws.{Left}
use Rattle.accents.specs.Mapping.{mapped}
use Rattle.accents.specs.Chars.{chars}
use Rattle.accents_names.proofs.work.put_mapped.Given as goal

abbrev pub invariant-loop-i : goal.invariant-loop-i
invariant-loop-i l = Left l.work l.n (mapped (chars (drop l.i l.s))) l.initial.work l.at (mapped (chars l.s))

abbrev pub decreases-loop-i : goal.decreases-loop-i
decreases-loop-i l = length l.s - l.i
