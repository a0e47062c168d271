-- `document_commands::is_pair` meets its contract: true is the test of the three bytes.
use native.Mathlib.Omega.{arith}
use mathlib.Core.Bool.{false≢true}
use Rattle.document_commands.proofs.PlainLaws.{pair-at}
use Rattle.document_commands.proofs.plain.is_pair.Goals as goal

pub returns-then-text-lt3 : goal.returns-then-text-lt3
returns-then-text-lt3 c = λ h. absurd (false≢true h)

pub returns-then-text-at : goal.returns-then-text-at
returns-then-text-at c = λ h. absurd (false≢true h)

pub returns : goal.returns
returns c = λ h. pair-at _ _ (omega (arith, c.if-text-at.false, c.if-text-lt3.false)) h
