-- `pbn_annotation::note_faulty` meets its contract: a note whose first word is 0 is none.
use Rattle.text.specs.Fault.{fault_of}
use Rattle.pbn_annotation.proofs.NoteLaws.{note-none, note-one}
use Rattle.pbn_annotation.proofs.notes.note_faulty.Goals as goal

pub returns-then-present-eq0 : goal.returns-then-present-eq0
returns-then-present-eq0 c = note-none (fault_of c.args.fault c.args.text.now) c.args.note 0 c.if-present-eq0.true

pub returns : goal.returns
returns c = note-one (fault_of c.args.fault c.args.text.now) c.args.note 0 c.if-present-eq0.false _ c.faulty.ensures
