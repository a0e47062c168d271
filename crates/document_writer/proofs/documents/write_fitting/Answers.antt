use mathlib.Core.Path.{refl}
use Rattle.document_writer.proofs.Answers.{write-small, write_done}
use Rattle.document_writer.proofs.documents.write_fitting.Goals as goal

pub returns-then-room-need : goal.returns-then-room-need
returns-then-room-need c = let p = c.requires in write-small _ _ _ _ p.short _ refl p.within _ refl p.well _ p.long _ c.room.ensures c.if-room-need.true

pub returns : goal.returns
returns c = let p = c.requires in write_done _ _ _ _ p.short _ refl p.within _ refl p.well _ p.long _ c.room.ensures c.if-room-need.false c.put_document-n.ensures
