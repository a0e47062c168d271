-- `board_loop::store_card` meets its contract: the card, or nothing.
use mathlib.Core.Path.{sym, ◌∙◌}
use Rattle.board_loop.proofs.StoringLaws.{none_put}
use Rattle.board_loop.proofs.storing.store_card.Goals as goal

pub returns-in-None : goal.returns-in-None
returns-in-None c = none_put _ _ _ _ (sym c.in-None.is ∙ c.card_at.ensures)
