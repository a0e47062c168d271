-- `document_commands::after_lf` meets its contract: an LF in front of a command is trimmed. (01: Tokens)
use Rattle.document_commands.proofs.CommandLaws.{same_here, same_lf}
use Rattle.document_commands.proofs.commands.after_lf.Goals as goal

pub returns-then-p-at : goal.returns-then-p-at
returns-then-p-at c = same_here _ _ _ c.requires.0

pub returns-then-text-at-eq10 : goal.returns-then-text-at-eq10
returns-then-text-at-eq10 c = same_lf _ _ _ c.if-p-at.false c.requires.1 c.if-text-at-eq10.true

pub returns : goal.returns
returns c = same_here _ _ _ c.requires.0
