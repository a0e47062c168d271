-- `document_commands::after_line` meets its contract: the byte that was passed is an LF.
use native.Mathlib.Omega.{arith}
use Rattle.document_commands.proofs.PlainLaws.{skips-here, skips_lf}
use Rattle.document_commands.proofs.plain.after_line.Goals as goal

pub returns-then-text-at : goal.returns-then-text-at
returns-then-text-at c = skips-here _ _

pub returns-then-text-at-eq10 : goal.returns-then-text-at-eq10
returns-then-text-at-eq10 c = skips_lf _ _ (omega (arith, c.if-text-at.false)) c.if-text-at-eq10.true

pub returns : goal.returns
returns c = skips-here _ _
