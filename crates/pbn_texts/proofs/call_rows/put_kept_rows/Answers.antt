-- `pbn_texts::put_kept_rows` meets its contract: a turn stores the row of one call, and goes past its texts.
use native.Mathlib.Omega.{arith}
use Rattle.output.proofs.Laws.{start, roomy, finish}
use Rattle.pbn_texts.proofs.CallLaws.{calls-are}
use Rattle.pbn_texts.proofs.RowLaws.{row-left, row_step, no_row-left, fits_here, fits_next}
use Rattle.pbn_texts.proofs.call_rows.put_kept_rows.Goals as goal

pub loop-row-init : goal.loop-row-init
loop-row-init c = rw (calls-are _ _ c.as_chunks.ensures.front) (start c.requires.0, c.requires.1)

pub put_placed-p-requires : goal.put_placed-p-requires
put_placed-p-requires c = let l = c.loop-row in
    (roomy _ _ (row-left c.args.text.now c.args.notes.now _ l.row-index l.p.text l.invariant.0 (omega arith) _ c.pbn_call_of.ensures), fits_here c.args.text.now c.args.notes.now _ l.row-index l.p.text l.invariant.1 (omega arith) _ c.pbn_call_of.ensures)

pub loop-row-preserved : goal.loop-row-preserved
loop-row-preserved c = let l = c.loop-row in (
  row_step c.args.text.now c.args.notes.now _ l.row-index l.p.text l.invariant.0 (omega arith) _ c.pbn_call_of.ensures _ c.put_placed-p.ensures.0 c.put_placed-p.ensures.1,
  fits_next c.args.text.now c.args.notes.now _ l.row-index l.p.text l.invariant.1 (omega arith) _ c.pbn_call_of.ensures _ c.put_placed-p.ensures.1,
)

pub returns : goal.returns
returns c = finish (no_row-left c.args.text.now c.args.notes.now _ c.loop-row.row-index c.loop-row.p.text c.loop-row.invariant.0 c.loop-row-test.false)
