-- `rows::spill_rows` meets its contract: a turn spills one row more, and where the call is refused none is spilled.
use Rattle.std.proofs.Common.{refl}
use Rattle.output.proofs.Laws.{roomy}
use Rattle.rows.proofs.Laws.{spill_start, spill_next, spill_more, spill_end, spill_fits, spill_done}
use Rattle.rows.proofs.words.spill_rows.Goals as goal

pub loop-row-init : goal.loop-row-init
loop-row-init c = spill_start _ _ (spill_fits c.args.rows.now c.args.words.now c.spill_answer-moved.result c.spill_answer-moved.ensures _ c.in-Ok.is)

pub put_row_words-at-requires : goal.put_row_words-at-requires
put_row_words-at-requires c = roomy _ _ (spill_next _ _ _ _ _ c.loop-row.invariant c.loop-row-test.true)

pub loop-row-preserved : goal.loop-row-preserved
loop-row-preserved c = spill_more _ _ _ _ _ c.loop-row.invariant c.loop-row-test.true _ _ c.put_row_words-at.ensures

pub returns-after-loop-row : goal.returns-after-loop-row
returns-after-loop-row c =
    spill_done _ _ c.spill_answer-moved.result c.spill_answer-moved.ensures _ (rw c.in-Ok.is (spill_end _ _ _ _ _ c.loop-row.invariant c.loop-row-test.false))

pub returns-in_default : goal.returns-in_default
returns-in_default c = spill_done _ _ c.spill_answer-moved.result c.spill_answer-moved.ensures _ (rw c.in_default.is refl)
