-- `pbn_texts::put_pbn_calls` meets its contract: a turn takes one call off what is left to write.
use native.Mathlib.Omega.{arith}
use Rattle.output.proofs.Laws.{start, roomy, step, finish}
use Rattle.pbn_texts.proofs.CallLaws.{calls-are, call-left, none_left, sound-next}
use Rattle.pbn_texts.proofs.calls.put_pbn_calls.Goals as goal

pub loop-row-init : goal.loop-row-init
loop-row-init c = rw (calls-are _ _ c.as_chunks.ensures.front) (start c.requires.0, c.requires.1)

pub put_pbn_call-o-requires : goal.put_pbn_call-o-requires
put_pbn_call-o-requires c = let l = c.loop-row in
    (roomy _ _ (call-left c.args.text.now c.args.notes.now _ l.row-index l.invariant.0 (omega arith) _ c.pbn_call_of.ensures), (sound-next _ l.row-index l.invariant.1 (omega arith) _ c.pbn_call_of.ensures).0)

pub loop-row-preserved : goal.loop-row-preserved
loop-row-preserved c = let l = c.loop-row in
    (step (call-left c.args.text.now c.args.notes.now _ l.row-index l.invariant.0 (omega arith) _ c.pbn_call_of.ensures) c.put_pbn_call-o.ensures, (sound-next _ l.row-index l.invariant.1 (omega arith) _ c.pbn_call_of.ensures).1)

pub returns : goal.returns
returns c = finish (none_left c.args.text.now c.args.notes.now _ c.loop-row.row-index c.loop-row.invariant.0 c.loop-row-test.false)
