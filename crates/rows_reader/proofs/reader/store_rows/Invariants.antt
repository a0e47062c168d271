-- `rows_reader::store_rows`: the calls before this row are stored, and the next is looked for from `at` on.
use Rattle.std.proofs.Common.{take}
use Rattle.rows_reader.proofs.ReaderLaws.{Storing}
use Rattle.rows_reader.proofs.reader.store_rows.Given as goal

abbrev pub invariant-loop-row : goal.invariant-loop-row
invariant-loop-row l = Storing (take l.stop l.text) l.start l.n l.initial.row-items l.row-index l.at l.row-items
