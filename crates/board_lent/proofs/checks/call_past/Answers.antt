-- `board_lent::call_past` meets its contract: the bid, and the annotation where there is one.
use Rattle.board_lent.proofs.LentLaws.{call_either}
use Rattle.board_lent.proofs.checks.call_past.Goals as goal

pub returns : goal.returns
returns c = call_either _ c.args.c _ _ c.past_end-bid.ensures c.past_end-annotation.ensures
