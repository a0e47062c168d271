-- `document_commands::is_unmarked` meets its contract: the bytes that are tested say what the command is.
use mathlib.Core.Bool.{false≢true}
use native.Mathlib.Omega.{arith}
use Rattle.document_commands.proofs.PlainLaws.{unmarked-at}
use Rattle.document_commands.proofs.plain.is_unmarked.Goals as goal

pub returns-then-text-lt3 : goal.returns-then-text-lt3
returns-then-text-lt3 c = λ h. absurd (false≢true h)

pub returns-then-text-at : goal.returns-then-text-at
returns-then-text-at c = λ h. absurd (false≢true h)

pub returns-then-text-at-2 : goal.returns-then-text-at-2
returns-then-text-at-2 c = λ h. absurd (false≢true h)

pub returns : goal.returns
returns c = λ h. unmarked-at _ _ (omega (arith, c.if-text-at.false, c.if-text-lt3.false)) c.if-text-at-2.false (c.other_letter.ensures h)
