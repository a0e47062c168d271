-- `board_lent::ill_texts` meets its contract: the rows and the heading, by the index that was chosen.
use Rattle.board_lent.proofs.LentLaws.{texts-all}
use Rattle.board_lent.proofs.checks.ill_texts.Goals as goal

pub returns : goal.returns
returns c = let a = c.args in
    λ counts cards. texts-all a.text.now a.head counts a.rows.now cards _ _ c.head_meets.ensures c.rows_ill-row.ensures
