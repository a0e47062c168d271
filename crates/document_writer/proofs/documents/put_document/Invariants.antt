-- `document_writer::put_document` meets its contract: a turn takes one run off what is left to write.
use Prim.Native.Nat.{◌-◌, ◌≤◌}
use lib.ListN.{length, drop}
use Rattle.lin_spec.specs.Document.{document_text}
use Rattle.output.proofs.Laws.{Left}
use Rattle.document_writer.proofs.documents.put_document.Given as goal

abbrev pub invariant-loop-i : goal.invariant-loop-i
invariant-loop-i l = (l.i ≤ length l.rows) × Left l.out l.o (document_text l.text (drop l.i l.rows) l.trailing) l.initial.out 0 (document_text l.text l.rows l.trailing)

abbrev pub decreases-loop-i : goal.decreases-loop-i
decreases-loop-i l = length l.rows - l.i
