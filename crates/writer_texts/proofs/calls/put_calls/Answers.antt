-- `writer_texts::put_calls` meets its contract: a turn takes one call off what is left to write.
use Rattle.output.proofs.Laws.{start, roomy, step, finish}
use Rattle.writer_texts.proofs.CallLaws.{chunks-bytes, call-left, none_left}
use Rattle.writer_texts.proofs.calls.put_calls.Goals as goal

pub loop-row-init : goal.loop-row-init
loop-row-init c = let m = c.args.marks in start (rw (chunks-bytes m.pipe m.line c.args.text.now c.args.rows.now _ c.as_chunks.ensures.front) at c.requires)

pub put_call-o-requires : goal.put_call-o-requires
put_call-o-requires c = let m = c.args.marks in roomy _ _ (call-left m.pipe m.line c.args.text.now _ _ c.loop-row.invariant c.loop-row-test.true _ c.call_of.ensures)

pub loop-row-preserved : goal.loop-row-preserved
loop-row-preserved c = let m = c.args.marks in step (call-left m.pipe m.line c.args.text.now _ _ c.loop-row.invariant c.loop-row-test.true _ c.call_of.ensures) c.put_call-o.ensures

pub returns : goal.returns
returns c = let m = c.args.marks in
    rw (chunks-bytes m.pipe m.line c.args.text.now c.args.rows.now _ c.as_chunks.ensures.front) (finish (none_left m.pipe m.line c.args.text.now _ _ c.loop-row.invariant c.loop-row-test.false))
