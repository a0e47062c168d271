-- `document_commands::word_at` meets its contract: the word that is left after trimming. (01: Tokens)
use mathlib.Core.Path.{ap, ◌∙◌}
use Rattle.lin_spec.specs.Records.{part}
use Rattle.document_commands.specs.Commands.{words, first_word, command_of}
use Rattle.document_commands.proofs.commands.word_at.Goals as goal

pub returns : goal.returns
unfolding command_of part
returns c = c.word_of.ensures ∙ ap (first_word 0 words) c.trim.ensures
