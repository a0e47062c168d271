-- `board_loop::next_card` meets its contract: a turn takes a token without a card off those that are still to be read.
use Rattle.board_loop.proofs.PlayLaws.{no_card, card-here}
use Rattle.document_commands.proofs.StepLaws.{commanded, spanned}
use mathlib.Core.Path.{◌∙◌, sym}
use Rattle.board_loop.proofs.play.next_card.Goals as goal

pub returns-in-Some-card_at : goal.returns-in-Some-card_at
returns-in-Some-card_at c = sym c.loop-k.invariant ∙ card-here _ _ _ _ _ (spanned _ _ _ _ _ _ c.span_of.ensures (commanded _ _ _ _ c.next_command.ensures c.in-Some.is)) _ (sym c.in-Some-card_at.is ∙ c.card_at.ensures)

pub loop-k-preserved : goal.loop-k-preserved
loop-k-preserved c = sym (card-here _ _ _ _ _ (spanned _ _ _ _ _ _ c.span_of.ensures (commanded _ _ _ _ c.next_command.ensures c.in-Some.is)) _ (sym c.in-None-card_at.is ∙ c.card_at.ensures)) ∙ c.loop-k.invariant

pub returns-in-None : goal.returns-in-None
returns-in-None c = sym c.loop-k.invariant ∙ no_card _ _ (commanded _ _ _ _ c.next_command.ensures c.in-None.is)
