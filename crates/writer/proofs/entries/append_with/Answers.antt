-- `writer::append_with` meets its contract: a board is what it is without its deal, and its deal. And what the types of its parameters say is so at the start of
-- every call, and so of every call of `append`: four names, 208 counts, a claim of one byte.
use mathlib.Core.Path.{◌≡◌}
use lib.ListN.{length}
use borrow.Author.Rules.{rules}
use Rattle.writer.proofs.entries.append_with.Lts
use Rattle.writer.proofs.entries.append_with.Reads
use Rattle.writer.proofs.entries.append_with.Tie
use Rattle.writer.proofs.entries.append_with.Goals as goal
use Rattle.lin_spec.specs.Lent.{lent}
use Rattle.lin_spec.specs.ThirdDemand.{Typed}
use Rattle.lin_spec.proofs.BoardType.{board_typed}

-- what the types of the parameters say is so at the start of every call: four names, 208 counts, a claim of one byte
lent_typed : (c : Lts.Start Tie.the-claims Reads.Pre Reads.Post) → Typed (lent c.args.text.now c.args.board c.args.rows.now c.args.cards.now)
lent_typed c = board_typed c.args.board _ c.well_formed.1.1.0 c.args.text.now c.args.rows.now c.args.cards.now

pub append_head-requires : goal.append_head-requires
append_head-requires c =
    let deal-long : length c.args.board.deal.counts ≡ 208 = search rules in
    deal-long

pub returns : goal.returns
returns c = rw c.head_of-head.ensures at c.append_head.ensures
