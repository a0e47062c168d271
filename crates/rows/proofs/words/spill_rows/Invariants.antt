-- `rows::spill_rows`: the rows before this one are spilled.
use Rattle.rows.proofs.Laws.{Spilling}
use Rattle.rows.proofs.words.spill_rows.Given as goal

abbrev pub invariant-loop-row : goal.invariant-loop-row
invariant-loop-row l = Spilling l.rows l.initial.words l.row-index l.words l.at
