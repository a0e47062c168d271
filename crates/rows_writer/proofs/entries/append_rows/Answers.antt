-- `rows_writer::append_rows` meets its contract: its answer by the verdict of the checks. And what the type of its board says is so at the start of every call: four names, 208 counts, a
-- claim of one byte.
use lib.ListN.{length}
use mathlib.Core.Path.{◌≡◌, ◌∙◌}
use borrow.Author.Rules.{rules}
use Rattle.lin_spec.specs.ThirdDemand.{Typed}
use Rattle.lin_spec.proofs.Checks.{handed}
use Rattle.rows.specs.Rows.{lent_rows}
use Rattle.rows.proofs.RowType.{rows_typed}
use Rattle.rows_writer.proofs.BeginLaws.{rows-refused, rows-may, rows-passed}
use Rattle.rows_writer.proofs.entries.append_rows.Lts
use Rattle.rows_writer.proofs.entries.append_rows.Reads
use Rattle.rows_writer.proofs.entries.append_rows.Tie
use Rattle.rows_writer.proofs.entries.append_rows.Goals as goal

-- what the types of the parameters say is so at the start of every call: four names, 208 counts, a claim of one byte
lent_typed : {k : Lts.the-Clauses Tie.the-claims Reads.Pre Reads.Post} (c : Lts.Start Tie.the-claims Reads.Pre Reads.Post k) → Typed (lent_rows c.args.text.now c.args.board c.args.rows.now c.args.cards.now)
lent_typed c = rows_typed c.args.board _ c.well_formed.1.0 c.args.text.now c.args.rows.now c.args.cards.now

pub append_checked-requires : goal.append_checked-requires
append_checked-requires c =
    let deal-long : length c.args.board.deal.counts ≡ 208 = search rules in
    let m = rows-may c.args.text.now c.args.board c.args.rows.now c.args.cards.now c.args.out.now c.args.used _ c.head_of-head.ensures _ c.room.ensures _ (c.check_rows.ensures c.args.board.deal.counts c.args.rows.now c.seen_rows-seen.ensures) c.in_ok-check_rows.was c.seen_rows-seen.result c.seen_rows-seen.ensures in
    (deal-long, m.0, m.1)

pub returns-in_err-check_rows : goal.returns-in_err-check_rows
returns-in_err-check_rows c = rows-refused c.args.text.now c.args.board c.args.rows.now c.args.cards.now c.args.out.now c.args.used _ c.head_of-head.ensures _ c.room.ensures _ (c.check_rows.ensures c.args.board.deal.counts c.args.rows.now c.seen_rows-seen.ensures) _ c.in_err-check_rows.was _ (handed _ _ c.from_residual.ensures)

pub returns : goal.returns
returns c = c.append_checked.ensures ∙ rows-passed c.args.text.now c.args.board c.args.rows.now c.args.cards.now c.args.out.now c.args.used _ c.head_of-head.ensures _ c.room.ensures _ (c.check_rows.ensures c.args.board.deal.counts c.args.rows.now c.seen_rows-seen.ensures) c.in_ok-check_rows.was
