-- `pbn_texts::put_kept_rows` meets its contract: a turn stores the row of one call, and goes past its texts.
use Prim.Native.Nat.{◌+◌, ◌≤◌}
use lib.ListN.{length, drop}
use Rattle.lin_spec.specs.Records.{limit}
use Rattle.lin_spec.specs.Pbn.{pbn_rows}
use Rattle.output.proofs.Laws.{Left}
use Rattle.pbn_texts.specs.Calls.{pbn_calls_bytes}
use Rattle.pbn_texts.specs.Rows.{placed_rows}
use Rattle.pbn_texts.proofs.CallLaws.{calls_in}
use Rattle.pbn_texts.proofs.call_rows.put_kept_rows.Given as goal

abbrev pub invariant-loop-row : goal.invariant-loop-row
invariant-loop-row l = Left l.rows l.p.row (placed_rows l.text l.notes l.p.text (calls_in (drop l.row-index l.row-items))) l.initial.rows 0 (placed_rows l.text l.notes l.at (pbn_rows l.calls))
    × (l.p.text + length (pbn_calls_bytes l.text l.notes (calls_in (drop l.row-index l.row-items))) ≤ limit)
