-- `document_commands::other_letter` meets its contract: what no arm names is none of the letters.
use mathlib.Core.Bool.{false≢true}
use mathlib.Core.Logic.{inl, inr}
use native.Mathlib.Omega.{arith}
use Rattle.document_commands.proofs.PlainLaws.{not_lower}
use Rattle.document_commands.proofs.plain.other_letter.Goals as goal

pub returns-in-120 : goal.returns-in-120
returns-in-120 c = λ h. absurd (false≢true h)

pub returns-in-100 : goal.returns-in-100
returns-in-100 c = λ h. absurd (false≢true h)

pub returns-in-110 : goal.returns-in-110
returns-in-110 c = λ h. absurd (false≢true h)

pub returns-in-124 : goal.returns-in-124
returns-in-124 c = λ h. absurd (false≢true h)

pub returns-in_default : goal.returns-in_default
returns-in_default c = λ _. record { bar = c.in_default.in_default-own.rest.1; d = not_lower _ 100 (λ e. c.in_default.in_default-own.rest.0.0.1 (inr e)) (λ e. c.in_default.in_default-own.rest.0.0.1 (inl (omega arith))); n = not_lower _ 110 (λ e. c.in_default.in_default-own.rest.0.1 (inr e)) (λ e. c.in_default.in_default-own.rest.0.1 (inl (omega arith))); x = not_lower _ 120 (λ e. c.in_default.in_default-own.rest.0.0.0.1 (inr e)) (λ e. c.in_default.in_default-own.rest.0.0.0.1 (inl (omega arith))) }
