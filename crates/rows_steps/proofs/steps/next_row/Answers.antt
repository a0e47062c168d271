use Rattle.rows_steps.proofs.StepLaws.{cut-is, cut_short, step_found, step_none}
use Rattle.rows_steps.proofs.steps.next_row.Goals as goal

pub slice_bounds-next_call-end : goal.slice_bounds-next_call-end
slice_bounds-next_call-end c = cut-is _ _ c.requires.0

pub next_call-requires : goal.next_call-requires
next_call-requires c = cut_short c.args.text.now c.args.stop c.requires.1

pub returns-in-Some : goal.returns-in-Some
returns-in-Some c = step_found _ _ _ c.next_call.ensures _ _ c.in-Some.is _ c.row_of.ensures

pub returns-in-None : goal.returns-in-None
returns-in-None c = step_none _ _ _ c.next_call.ensures c.in-None.is
