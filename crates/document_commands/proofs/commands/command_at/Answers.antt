-- `document_commands::command_at` meets its contract: two bytes, or the word that is left after trimming. (01: Tokens)
use mathlib.Core.Path.{ap, sym, ◌∙◌}
use Rattle.document_commands.specs.Commands.{command_of}
use Rattle.document_commands.proofs.CommandLaws.{two_bytes}
use Rattle.document_commands.proofs.commands.command_at.Goals as goal

pub returns-then-p-a-eq2 : goal.returns-then-p-a-eq2
returns-then-p-a-eq2 c = c.pair_of.ensures ∙ sym (ap command_of (two_bytes _ _ _ c.requires.1 c.if-p-a-eq2.true)) ∙ c.after_lf-a.ensures.same

pub word_at-requires : goal.word_at-requires
word_at-requires c = (c.after_lf-a.ensures.to, c.requires.1)

pub returns : goal.returns
returns c = c.word_at.ensures ∙ c.after_lf-a.ensures.same
