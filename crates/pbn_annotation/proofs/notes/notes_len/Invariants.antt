-- `pbn_annotation::notes_len`: its sum does not pass what 256 spans can have.
use Prim.Native.Nat.{◌*◌, ◌^◌, ◌≤◌}
use Rattle.pbn_annotation.proofs.notes.notes_len.Given as goal

abbrev pub invariant-loop-present : goal.invariant-loop-present
invariant-loop-present l = l.n ≤ l.present-index * 2 ^ 32
