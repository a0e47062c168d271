-- `pbn_texts::put_pbn_calls` meets its contract: a turn takes one call off what is left to write.
use mathlib.Core.Path.{◌≡◌}
use mathlib.Core.Bool.{false}
use lib.ListN.{drop}
use Rattle.lin_spec.specs.Base.{any}
use Rattle.lin_spec.specs.Pbn.{pbn_rows, bad_call}
use Rattle.output.proofs.Laws.{Left}
use Rattle.pbn_texts.specs.Calls.{pbn_calls_bytes}
use Rattle.pbn_texts.proofs.CallLaws.{calls_in}
use Rattle.pbn_texts.proofs.calls.put_pbn_calls.Given as goal

abbrev pub invariant-loop-row : goal.invariant-loop-row
invariant-loop-row l = Left l.out l.o (pbn_calls_bytes l.text l.notes (calls_in (drop l.row-index l.row-items))) l.initial.out l.at (pbn_calls_bytes l.text l.notes (pbn_rows l.calls))
    × (any bad_call (calls_in (drop l.row-index l.row-items)) ≡ false)
