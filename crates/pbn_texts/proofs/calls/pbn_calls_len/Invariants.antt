-- `pbn_texts::pbn_calls_len` meets its contract: a turn takes one call off what is left to count.
use Prim.Native.Nat.{◌+◌, ◌^◌, ◌<◌}
use mathlib.Core.Path.{◌≡◌}
use lib.ListN.{length, drop}
use Rattle.lin_spec.specs.Refusals.{sat}
use Rattle.lin_spec.specs.Pbn.{pbn_rows}
use Rattle.pbn_texts.specs.Calls.{pbn_calls_bytes}
use Rattle.pbn_texts.proofs.CallLaws.{calls_in}
use Rattle.pbn_texts.proofs.calls.pbn_calls_len.Given as goal

abbrev pub invariant-loop-row : goal.invariant-loop-row
invariant-loop-row l = (sat (l.n + length (pbn_calls_bytes l.text l.notes (calls_in (drop l.row-index l.row-items)))) ≡ sat (length (pbn_calls_bytes l.text l.notes (pbn_rows l.calls)))) × (l.n < 2 ^ 64)
