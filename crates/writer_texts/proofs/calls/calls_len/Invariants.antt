-- `writer_texts::calls_len` meets its contract: a turn takes one call off what is left to count.
use Prim.Native.Nat.{ℕ, ◌+◌, ◌^◌, ◌<◌}
use mathlib.Core.Path.{◌≡◌}
use lib.ListN.{length, drop}
use Rattle.lin_spec.specs.Refusals.{sat}
use Rattle.writer_texts.proofs.CallLaws.{chunk_calls}
use Rattle.writer_texts.proofs.calls.calls_len.Given as goal

abbrev pub invariant-loop-row : goal.invariant-loop-row
invariant-loop-row l = ((p q : ℕ) → sat (l.n + length (chunk_calls p q l.text (drop l.row-index l.row-items))) ≡ sat (length (chunk_calls p q l.text l.row-items))) × (l.n < 2 ^ 64)
