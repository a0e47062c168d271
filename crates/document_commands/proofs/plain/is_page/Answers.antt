-- `document_commands::is_page` meets its contract: true is the test of the four bytes.
use mathlib.Core.Bool.{false≢true}
use native.Mathlib.Omega.{arith}
use Rattle.document_commands.proofs.PlainLaws.{page_at}
use Rattle.document_commands.proofs.plain.is_page.Goals as goal

pub returns-then-text-lt4 : goal.returns-then-text-lt4
returns-then-text-lt4 c = λ h. absurd (false≢true h)

pub returns-then-text-at : goal.returns-then-text-at
returns-then-text-at c = λ h. absurd (false≢true h)

pub returns : goal.returns
returns c = λ h. page_at _ _ (omega (arith, c.if-text-at.false, c.if-text-lt4.false)) h
