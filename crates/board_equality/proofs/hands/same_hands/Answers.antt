-- `board_equality::same_hands` meets its contract: seat by seat, up to the first that differs.
use Rattle.lin_spec.specs.Equality.{same_deal}
use Rattle.board_equality.proofs.EqualityLaws.{and_stop, and_pass}
use Rattle.board_equality.proofs.hands.same_hands.Goals as goal

pub returns-then-not-same_cards : goal.returns-then-not-same_cards
unfolding same_deal
returns-then-not-same_cards c = and_stop _ _ _ c.same_cards.ensures c.if-not-same_cards.true-raw

pub returns-then-not-same_cards-2 : goal.returns-then-not-same_cards-2
unfolding same_deal
returns-then-not-same_cards-2 c = and_pass _ _ _ _ c.same_cards.ensures c.if-not-same_cards.false-raw (and_stop _ _ _ c.same_cards-2.ensures c.if-not-same_cards-2.true-raw)

pub returns-then-not-same_cards-3 : goal.returns-then-not-same_cards-3
unfolding same_deal
returns-then-not-same_cards-3 c = and_pass _ _ _ _ c.same_cards.ensures c.if-not-same_cards.false-raw (and_pass _ _ _ _ c.same_cards-2.ensures c.if-not-same_cards-2.false-raw (and_stop _ _ _ c.same_cards-3.ensures c.if-not-same_cards-3.true-raw))

pub returns : goal.returns
unfolding same_deal
returns c = and_pass _ _ _ _ c.same_cards.ensures c.if-not-same_cards.false-raw (and_pass _ _ _ _ c.same_cards-2.ensures c.if-not-same_cards-2.false-raw (and_pass _ _ _ _ c.same_cards-3.ensures c.if-not-same_cards-3.false-raw c.same_cards-4.ensures))
