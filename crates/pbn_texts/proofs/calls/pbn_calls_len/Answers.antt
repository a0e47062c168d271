-- `pbn_texts::pbn_calls_len` meets its contract: a turn takes one call off what is left to count.
use native.Mathlib.Omega.{arith}
use mathlib.Core.Path.{ap}
use lib.ListN.{length}
use Rattle.pbn_texts.specs.Calls.{pbn_calls_bytes}
use Rattle.pbn_texts.proofs.CallLaws.{calls-are, count-call, count_none}
use Rattle.pbn_texts.proofs.calls.pbn_calls_len.Goals as goal

pub loop-row-init : goal.loop-row-init
loop-row-init c = (omega (arith, ap (λ cs. length (pbn_calls_bytes c.args.text.now c.args.notes.now cs)) (calls-are _ _ c.as_chunks.ensures.front)), omega arith)

pub loop-row-preserved : goal.loop-row-preserved
loop-row-preserved c = let l = c.loop-row in
    (count-call c.args.text.now c.args.notes.now _ l.row-index _ _ l.invariant.0 (omega arith) _ c.pbn_call_of.ensures _ _ c.pbn_call_len.ensures c.sat_add-n.ensures, omega (arith, c.sat_add-n.ensures))

pub returns : goal.returns
returns c = let l = c.loop-row in count_none c.args.text.now c.args.notes.now _ l.row-index _ _ l.invariant.0 (omega arith) c.loop-row-test.false
