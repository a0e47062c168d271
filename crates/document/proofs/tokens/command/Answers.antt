-- `document::command` meets its contract: a part of the text.
use Rattle.document.proofs.tokens.command.Goals as goal

pub returns : goal.returns
returns c = c.part.ensures
