-- `board_loop::read_head` meets its contract: a turn takes one token off those that are still to be read.
use mathlib.Core.Path.{refl}
use Rattle.cards.specs.Letters.{table}
use Rattle.document_commands.proofs.StepLaws.{tokened}
use Rattle.board_loop.proofs.HeadLaws.{turn, card-more, stepped_none, stepped_card, stepped_call}
use Rattle.board_loop.proofs.heading.read_head.Goals as goal

pub board_token-requires : goal.board_token-requires
board_token-requires c = (unfold table in refl, c.requires.1)

pub loop-next-preserved-in-Card : goal.loop-next-preserved-in-Card
loop-next-preserved-in-Card c = let t = tokened _ _ _ _ c.board_token.ensures c.in-Card.is in turn _ _ _ _ c.loop-next.invariant _ _ _ t.token _ (stepped_card _ _ _ _ refl _ (card-more _ _ _ _ t.card refl))

pub loop-next-preserved-then-k-eq-PC : goal.loop-next-preserved-then-k-eq-PC
loop-next-preserved-then-k-eq-PC c = turn _ _ _ _ c.loop-next.invariant _ _ _ (tokened _ _ _ _ c.board_token.ensures c.in-Known.is) _ (stepped_card _ _ _ _ c.if-k-eq-PC.true _ c.on_card.ensures)

pub loop-next-preserved-then-k-eq-MB : goal.loop-next-preserved-then-k-eq-MB
loop-next-preserved-then-k-eq-MB c = turn _ _ _ _ c.loop-next.invariant _ _ _ (tokened _ _ _ _ c.board_token.ensures c.in-Known.is) _ (stepped_call _ _ _ _ c.if-k-eq-MB.true _ refl)

pub loop-next-preserved-else-k-eq-MB : goal.loop-next-preserved-else-k-eq-MB
loop-next-preserved-else-k-eq-MB c = turn _ _ _ _ c.loop-next.invariant _ _ _ (tokened _ _ _ _ c.board_token.ensures c.in-Known.is) _ c.step-h.ensures

pub loop-next-preserved : goal.loop-next-preserved
loop-next-preserved c = let t = tokened _ _ _ _ c.board_token.ensures c.in-Other.is in turn _ _ _ _ c.loop-next.invariant _ _ _ t.token _ (stepped_none _ _ _ _ t.unknown)
