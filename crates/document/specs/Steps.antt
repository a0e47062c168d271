-- The cursor's answers as lin_spec's: a place, a token as two places, a refusal. (01: Tokens)
use Rattle.lin_spec.specs.declared.Refusal.{Refusal}
use Rattle.document.specs.declared.tokens.Cursor.{Cursor}
use Rattle.std.specs.Prelude.{ℕ, Err, Ok, None, Option, Result, Some}
use Rattle.lin_spec.specs.Cursor.{Place, place, Step as StepAt}
use Rattle.lin_spec.specs.Cursor.Step.{found, ended}
use Rattle.lin_spec.specs.Refusals.{Answer}
use Rattle.document.specs.declared.tokens.Part.{Part}
use Rattle.document.specs.declared.tokens.Step.{Step}
use Rattle.document.specs.declared.tokens.Token.{Token}

abbrev pub opened_of : Result Cursor Refusal → Answer ℕ
opened_of (Ok c) = Ok c.at
opened_of (Err r) = Err r

abbrev pub part_place : Part → Place
part_place p = place p.start p.len

-- a token or none, and the cursor that is handed back
abbrev pub step_by : Option Token → (next : ℕ) → StepAt
step_by (Some t) n = found (part_place t.command) (part_place t.value) n
step_by None n = ended n

abbrev pub step_of : Step → StepAt
step_of x = step_by x.token x.cursor.at
