-- The answer of an annotation's writer as numbers. (01: From PBN, "Words join with a space, none means absent.")
use Rattle.std.specs.Prelude.{ℕ, List, Option, None, Some, Err, Ok}
use Rattle.lin_spec.specs.Refusals.{Answer}
use Rattle.lin_spec.specs.Annotation.{Annotated as Written}
use Rattle.lin_host_numbers.specs.Answers.{numbers_of}
use Rattle.lin_host.specs.declared.annotations.LinAnnotation.{LinAnnotation}

-- the length of the text, or "absent" as 0 and 0, or the refusal
abbrev pub annotation_numbers : Answer (Option ℕ) → LinAnnotation
annotation_numbers (Ok None) = record { answer = numbers_of (Ok 0); present = 0 }
annotation_numbers (Ok (Some n)) = record { answer = numbers_of (Ok n); present = 1 }
annotation_numbers (Err r) = record { answer = numbers_of (Err r); present = 0 }

-- an answer, and the output afterwards
pub record Annotated : Type 0 where
  pub answer : LinAnnotation
  pub output : List ℕ

abbrev pub annotated_numbers : Written → Annotated
annotated_numbers w = record { answer = annotation_numbers w.answer; output = w.output }
