-- `document::value` meets its contract: a part of the text.
use Rattle.document.proofs.tokens.value.Goals as goal

pub returns : goal.returns
returns c = c.part.ensures
