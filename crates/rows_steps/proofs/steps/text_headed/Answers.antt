use Rattle.lin_spec.specs.declared.Refusal.TheVariants.{TextTooLong}
use Rattle.lin_spec.proofs.Checks.{handed}
use Rattle.std.specs.Prelude.{Err}
use Rattle.rows_steps.proofs.StepLaws.{text-short, text-read, text-refused}
use Rattle.rows_steps.proofs.steps.text_headed.Goals as goal

pub headed_at-requires : goal.headed_at-requires
headed_at-requires c = text-short _ _ c.open.ensures c.args.rows c.args.cards.now (Err TextTooLong) _ c.in_ok-open.was

pub returns : goal.returns
returns c = text-read _ _ c.open.ensures _ _ _ _ c.in_ok-open.was _ c.headed_at.ensures

pub returns-in_err-open : goal.returns-in_err-open
returns-in_err-open c = text-refused _ _ c.open.ensures _ _ _ _ c.in_err-open.was (handed _ _ c.from_residual.ensures)
