-- `rows::fill_rows` meets its contract: a turn fills one row more, and where the call is refused none is filled.
use Rattle.std.proofs.Common.{arith, refl}
use Rattle.rows.proofs.Laws.{fill_start, fill_more, fill_end, fill_fits, fill_done}
use Rattle.rows.proofs.words.fill_rows.Goals as goal

pub loop-i-init : goal.loop-i-init
loop-i-init c = fill_start _ _

pub bounds-rows-i : goal.bounds-rows-i
bounds-rows-i c =
    let f = fill_fits c.args.rows.now c.args.words.now c.fill_answer-moved.result c.fill_answer-moved.ensures _ c.in-Ok.is in
    omega (arith, f)

pub loop-i-preserved : goal.loop-i-preserved
loop-i-preserved c = fill_more _ _ c.as_chunks.ensures.front _ _ _ c.loop-i.invariant c.loop-i-test.true _ c.call_of.ensures _ c.row_of.ensures

pub returns-after-loop-i : goal.returns-after-loop-i
returns-after-loop-i c =
    fill_done _ _ c.fill_answer-moved.result c.fill_answer-moved.ensures _ (rw c.in-Ok.is (fill_end _ _ c.as_chunks.ensures.front _ _ _ c.loop-i.invariant c.loop-i-test.false))

pub returns-in_default : goal.returns-in_default
returns-in_default c = fill_done _ _ c.fill_answer-moved.result c.fill_answer-moved.ensures _ (rw c.in_default.is refl)
