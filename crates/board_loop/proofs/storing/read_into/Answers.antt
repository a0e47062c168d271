-- `board_loop::read_into` meets its contract: a turn takes one token off those that are still to be read, and stores what it gives.
use native.Mathlib.Omega.{arith}
use mathlib.Core.Path.{refl}
use Rattle.cards.specs.Letters.{table}
use Rattle.document_commands.proofs.StepLaws.{tokened}
use Rattle.board_loop.proofs.HeadLaws.{stepped_none}
use Rattle.board_loop.proofs.StoringLaws.{into_begin, into_end, one-room, one_put, card-room, into_card, into_step, call-room, into_call, rows_most, into_note}
use Rattle.board_loop.proofs.storing.read_into.Goals as goal

pub loop-card-init : goal.loop-card-init
loop-card-init c = rw c.fresh_head-h.ensures (into_begin _ _ _ _ c.requires)

pub board_token-requires : goal.board_token-requires
board_token-requires c = (unfold table in refl, c.requires.short)

pub put-requires : goal.put-requires
put-requires c = let t = tokened _ _ _ _ c.board_token.ensures c.in-Card.is in one-room _ _ _ _ _ t.card (card-room _ _ _ _ c.requires _ _ _ _ c.loop-card.invariant _ _ _ t.token refl)

pub loop-card-preserved-in-Card : goal.loop-card-preserved-in-Card
loop-card-preserved-in-Card c = let t = tokened _ _ _ _ c.board_token.ensures c.in-Card.is in into_card _ _ _ _ c.requires _ _ _ _ c.loop-card.invariant _ _ _ t.token refl _ _ (one_put _ _ _ _ _ t.card _ _ c.put.ensures)

pub store_card-requires : goal.store_card-requires
store_card-requires c = card-room _ _ _ _ c.requires _ _ _ _ c.loop-card.invariant _ _ _ (tokened _ _ _ _ c.board_token.ensures c.in-Known.is) c.if-k-eq-PC.true

pub store_bid-requires : goal.store_bid-requires
store_bid-requires c = let t = tokened _ _ _ _ c.board_token.ensures c.in-Known.is in (t.value, call-room _ _ _ _ c.requires _ _ _ _ c.loop-card.invariant _ _ _ t c.if-k-eq-MB.true)

pub store_last-requires : goal.store_last-requires
store_last-requires c = rows_most _ _ _ _ c.requires _ _ _ _ c.loop-card.invariant

pub loop-card-preserved-then-k-eq-PC : goal.loop-card-preserved-then-k-eq-PC
loop-card-preserved-then-k-eq-PC c = into_card _ _ _ _ c.requires _ _ _ _ c.loop-card.invariant _ _ _ (tokened _ _ _ _ c.board_token.ensures c.in-Known.is) c.if-k-eq-PC.true _ _ c.store_card.ensures

pub loop-card-preserved-then-k-eq-MB : goal.loop-card-preserved-then-k-eq-MB
loop-card-preserved-then-k-eq-MB c = into_call _ _ _ _ c.requires _ _ _ _ c.loop-card.invariant _ _ _ (tokened _ _ _ _ c.board_token.ensures c.in-Known.is) c.if-k-eq-MB.true _ c.store_bid.ensures.1 _ c.store_bid.ensures.0

pub loop-card-preserved-then-k-eq-AN : goal.loop-card-preserved-then-k-eq-AN
loop-card-preserved-then-k-eq-AN c = into_note _ _ _ _ c.requires _ _ _ _ c.loop-card.invariant _ _ _ (tokened _ _ _ _ c.board_token.ensures c.in-Known.is) c.if-k-eq-AN.true _ c.store_last.ensures

pub loop-card-preserved-else-k-eq-AN : goal.loop-card-preserved-else-k-eq-AN
loop-card-preserved-else-k-eq-AN c = into_step _ _ _ _ c.requires _ _ _ _ c.loop-card.invariant _ _ _ (tokened _ _ _ _ c.board_token.ensures c.in-Known.is) c.if-k-eq-PC.false c.if-k-eq-MB.false c.if-k-eq-AN.false _ c.step-h.ensures

pub loop-card-preserved : goal.loop-card-preserved
loop-card-preserved c = let t = tokened _ _ _ _ c.board_token.ensures c.in-Other.is in into_step _ _ _ _ c.requires _ _ _ _ c.loop-card.invariant _ _ _ t.token (λ e. omega (arith, e, t.unknown)) (λ e. omega (arith, e, t.unknown)) (λ e. omega (arith, e, t.unknown)) _ (stepped_none _ _ _ _ t.unknown)

pub returns-in-Ended : goal.returns-in-Ended
returns-in-Ended c = into_end _ _ _ _ c.requires _ _ _ _ c.loop-card.invariant (tokened _ _ _ _ c.board_token.ensures c.in-Ended.is)
