-- `board_lent::start_of` meets its contract: no word is an index, and the longest well-formed start is one.
use native.Mathlib.Omega.{arith}
use Rattle.lin_spec.proofs.Utf8.{longest-within}
use Rattle.board_lent.proofs.LentLaws.{started}
use Rattle.board_lent.proofs.checks.start_of.Goals as goal

pub overflow_cast-result : goal.overflow_cast-result
overflow_cast-result c = let w = longest-within c.args.text.now in omega (arith, c.well_formed_len-n.ensures)

pub returns : goal.returns
returns c = started c.args.text.now _ c.well_formed_len-n.ensures c.if-text-gt-LIMIT.false
