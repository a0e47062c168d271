-- `board_equality::same_deal` meets its contract: the same counts, or seat by seat.
use Rattle.board_equality.proofs.EqualityLaws.{words-same, same-counts}
use Rattle.board_equality.proofs.hands.same_deal.Goals as goal

pub returns-then-eq : goal.returns-then-eq
returns-then-eq c = same-counts _ _ (words-same _ _ _ c.eq.ensures c.if-eq.true)
