-- `pbn_annotation::annotation_faulty` meets its contract: the raw annotation, then the notes.
use mathlib.Core.Path.{sym, ◌∙◌}
use Rattle.text.specs.Fault.{fault_of}
use Rattle.pbn_annotation.proofs.Answers.{raw-found, raw-next}
use Rattle.pbn_annotation.proofs.entry.annotation_faulty.Goals as goal

pub returns-then-faulty : goal.returns-then-faulty
returns-then-faulty c = raw-found (fault_of c.args.fault c.args.text.now) _ _ (sym c.faulty.ensures ∙ c.if-faulty.true)

pub returns : goal.returns
returns c = raw-next (fault_of c.args.fault c.args.text.now) _ _ (sym c.faulty.ensures ∙ c.if-faulty.false) _ c.any_note_faulty.ensures
