-- `document_writer::run_at` meets its contract. The loop's invariant: the rows so far are the text from start to stop.
use Prim.Native.Nat.{◌+◌, ◌*◌}
use mathlib.Core.Path.{◌≡◌}
use Rattle.document_writer.proofs.RunLaws.{RunTo}
use Rattle.document_writer.proofs.documents.run_at.Given as goal

abbrev pub invariant-loop-row : goal.invariant-loop-row
invariant-loop-row l = (l.words ≡ l.row-index * 4 + 4) × RunTo l.text l.rows l.i l.start l.stop (l.i + l.words)
