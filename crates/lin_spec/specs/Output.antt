-- Bytes written into a lent output. (01: Writer, "Every output's room ..", and Eight refusals, "All lent memory stays ..")
use Rattle.std.specs.Prelude.{ℕ, ◌+◌, min, List, ◌++◌, length, take, drop, Option, Err, Ok}
use Rattle.lin_spec.specs.Records.{limit}
use Rattle.lin_spec.specs.Refusals.{Answer, unless}
use Rattle.lin_spec.specs.declared.Refusal.{Refusal}

-- o with the text s from the place `at` on; "Rows and bytes not named by a success stay too."
unfoldable pub overlay : {A : Type 0} → (o : List A) (at : ℕ) (s : List A) → List A
overlay o at s = take at o ++ s ++ drop (at + length s) o

-- 01's term room: "Every output's room is the lesser of its length and 1,048,576"
abbrev pub room : List ℕ → ℕ
room o = min (length o) limit

-- what a writer answers, and the output afterwards
pub record Outcome : Type 0 where
  pub answer : Answer ℕ
  pub output : List ℕ

-- the output after an answer to write s from the first byte on: a refusal leaves it
abbrev pub output_after : {A : Type 0} → Answer A → (o s : List ℕ) → List ℕ
output_after (Err r) o s = o
output_after (Ok n) o s = overlay o 0 s

-- "filled from the first byte and give the length", unless one of the checks refuses the call
unfoldable pub fill : List (Option Refusal) → (o s : List ℕ) → Outcome
fill cs o s =
    let a = unless cs (length s) in
    record { answer = a; output = output_after a o s }
