-- `rows_walks::put_rows` meets its contract: a turn puts one call more.
use Rattle.output.proofs.Laws.{roomy}
use Rattle.rows_walks.proofs.PutLaws.{put_next, put_more, put_end}
use Rattle.rows_walks.proofs.puts.put_rows.Goals as goal

pub put_row_call-o-requires : goal.put_row_call-o-requires
put_row_call-o-requires c = roomy _ _ (put_next _ _ _ _ _ _ _ _ _ c.loop-row.invariant c.loop-row-test.true)

pub loop-row-preserved : goal.loop-row-preserved
loop-row-preserved c = put_more _ _ _ _ _ _ _ _ _ c.loop-row.invariant c.loop-row-test.true _ _ c.put_row_call-o.ensures

pub returns : goal.returns
returns c = put_end _ _ _ _ _ _ _ _ _ c.loop-row.invariant c.loop-row-test.false
