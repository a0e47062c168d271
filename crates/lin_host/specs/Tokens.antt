-- A step of the cursor and a remainder as numbers. (01: Tokens)
use Rattle.std.specs.Prelude.{ℕ, min, List, length}
use Rattle.lin_spec.specs.Cursor.{Step, remainder}
use Rattle.lin_spec.specs.Cursor.Step.{found, ended}
use Rattle.lin_host.specs.declared.tokens.LinStep.{LinStep}
use Rattle.lin_host.specs.declared.tokens.LinPart.{LinPart}

abbrev pub step_numbers : Step → LinStep
step_numbers (found c v n) =
    record {
      found = 1;
      command_start = c.start;
      command_len = c.len;
      value_start = v.start;
      value_len = v.len;
      next = n;
    }
step_numbers (ended n) =
    record {
      found = 0;
      command_start = 0;
      command_len = 0;
      value_start = 0;
      value_len = 0;
      next = n;
    }

-- the remainder from a place on, as a part of the text: "nothing beyond the end"
abbrev pub rest_numbers : List ℕ → (at : ℕ) → LinPart
rest_numbers s at = record { start = min at (length s); len = length (remainder s at) }
