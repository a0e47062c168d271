-- `board::board_at` meets its contract: the board where 3 does not meet the call, and the refusal where it does.
use Rattle.board.proofs.ReaderLaws.{counted, fits, board-stored, rows-refused}
use Rattle.lin_spec.proofs.Checks.{handed}
use Rattle.board.proofs.reader.board_at.Goals as goal

pub read_into-requires : goal.read_into-requires
read_into-requires c = fits c.args.text.now c.args.at c.args.rows.now c.args.cards.now (counted c.args.text.now c.args.at c.args.rows.now c.args.cards.now _ _ c.few_rows.ensures c.in_ok-few_rows.was) c.requires

pub returns : goal.returns
returns c = board-stored c.args.text.now c.args.at c.args.rows.now c.args.cards.now (counted c.args.text.now c.args.at c.args.rows.now c.args.cards.now _ _ c.few_rows.ensures c.in_ok-few_rows.was) _ _ _ c.read_into.ensures _ c.with_deal.ensures

pub returns-in_err-few_rows : goal.returns-in_err-few_rows
returns-in_err-few_rows c = rows-refused c.args.text.now c.args.at c.args.rows.now c.args.cards.now _ (counted c.args.text.now c.args.at c.args.rows.now c.args.cards.now _ _ c.few_rows.ensures c.in_err-few_rows.was) _ (handed _ _ c.from_residual.ensures)
