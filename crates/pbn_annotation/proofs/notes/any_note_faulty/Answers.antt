-- `pbn_annotation::any_note_faulty` meets its contract: each chunk of three words is a note.
use Rattle.std.proofs.Common.{rules, ◌∙◌}
use Rattle.std.proofs.lemmas.Iterator.{YieldsList-from_slice}
use Rattle.std.proofs.lemmas.Iterator.Search.{any_from_yields_List}
use Rattle.lin_spec.specs.Base.{any}
use Rattle.text.specs.Fault.{fault_of}
use Rattle.pbn_annotation.specs.Notes.{note_at}
use Rattle.pbn_annotation.proofs.NoteLaws.{any_chunks}
use Rattle.pbn_annotation.proofs.notes.any_note_faulty.Goals as goal

pub returns : goal.returns
returns c =
    any_from_yields_List (λ r. any (fault_of c.args.fault c.args.text.now) (note_at r 0)) _ _ _ c.any.ensures.ran (YieldsList-from_slice c.as_chunks.result.0.now cc) (λ x b q k. search rules)
    ∙ any_chunks (fault_of c.args.fault c.args.text.now) c.args.notes.now _ c.as_chunks.ensures.front
