-- An answer or a refusal as three numbers, and with the output afterwards. (01: Eight refusals, "No." and "With it")
use Rattle.std.specs.Prelude.{ℕ, List, Err, Ok}
use Rattle.lin_spec.specs.Refusals.{Answer, number_of, kind_of, carried_of}
use Rattle.lin_spec.specs.Output.{Outcome as Written}
use Rattle.lin_host_numbers.specs.declared.answers.LinAnswer.{LinAnswer}

abbrev pub numbers_of : Answer ℕ → LinAnswer
numbers_of (Ok n) = record { refusal = 0; kind = 0; value = n }
numbers_of (Err r) = record { refusal = number_of r; kind = kind_of r; value = carried_of r }

-- an answer, and the output afterwards
pub record Outcome : Type 0 where
  pub answer : LinAnswer
  pub output : List ℕ

abbrev pub outcome_numbers : Written → Outcome
outcome_numbers w = record { answer = numbers_of w.answer; output = w.output }
