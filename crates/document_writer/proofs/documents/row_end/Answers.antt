-- `document_writer::row_end` meets its contract: the row's places and pipes are those of the text, or the place stays.
use mathlib.Core.Path.{refl}
use Rattle.document_writer.proofs.RunLaws.{stands_there}
use Rattle.document_writer.proofs.documents.row_end.Goals as goal

pub returns-then-text-p : goal.returns-then-text-p
returns-then-text-p c = stands_there _ _ _ _ refl c.if-text-q.false _ refl c.if-v-p.false c.if-start-at.false c.if-text-p.true
