-- `rows_walks::put_rows`: the calls of the rows before this one are put.
use Rattle.rows_walks.proofs.PutLaws.{Putting}
use Rattle.rows_walks.proofs.puts.put_rows.Given as goal

abbrev pub invariant-loop-row : goal.invariant-loop-row
invariant-loop-row l = Putting l.marks.pipe l.marks.line l.text l.rows l.initial.out l.at l.row-index l.out l.o
