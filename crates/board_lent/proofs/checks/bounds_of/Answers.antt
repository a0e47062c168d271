-- `board_lent::bounds_of` meets its contract: the rows, the cards and the heading.
use Rattle.board_lent.proofs.LentLaws.{bounds_all}
use Rattle.board_lent.proofs.checks.bounds_of.Goals as goal

pub returns : goal.returns
returns c = let a = c.args in λ counts. bounds_all a.text.now a.head counts _ _ _ c.row_bounds-row.ensures _ c.bad_cards.ensures _ c.head_past.ensures
