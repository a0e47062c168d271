-- `rows::fill_rows`: the rows before row i are filled.
use Rattle.rows.proofs.Laws.{Filling}
use Rattle.rows.proofs.words.fill_rows.Given as goal

abbrev pub invariant-loop-i : goal.invariant-loop-i
invariant-loop-i l = Filling l.words l.initial.rows l.i l.rows
