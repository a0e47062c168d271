-- `document_writer::write_looked` meets its contract: the refusal that was found, or the document.
use Prim.Native.Nat.{ℕ}
use mathlib.Core.Path.{sym, ◌∙◌, ap}
use Rattle.lin_spec.specs.Refusals.{Answer}
use Rattle.lin_spec.proofs.Checks.{handed}
use Rattle.document_writer.proofs.Answers.{lawful, write-met}
use Rattle.document_writer.proofs.documents.write_looked.Goals as goal

pub returns-in_err-need : goal.returns-in_err-need
returns-in_err-need c =
    ap (λ (a : Answer ℕ). record { answer = a; output = c.args.out.now }) (handed _ _ c.from_residual.ensures)
    ∙ write-met _ _ _ _ c.requires.0 _ (sym c.in_err-need.was ∙ c.look_at_rows.ensures)

pub write_fitting-requires : goal.write_fitting-requires
write_fitting-requires c = lawful _ _ _ c.requires.0 _ (sym c.in_ok-need.was ∙ c.look_at_rows.ensures)
