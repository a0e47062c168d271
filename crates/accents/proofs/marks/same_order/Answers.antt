-- `accents::marks::same_order` meets its contract: by the lengths, the characters or the classes.
use Rattle.std.proofs.Common.{rules}
use Rattle.accents.proofs.MarkLaws.{length_differs, same_ordered}
use Rattle.accents.proofs.marks.same_order.Goals as goal

pub returns-then-x-y : goal.returns-then-x-y
returns-then-x-y c = length_differs c.args.x.now c.args.y.now c.if-x-y.true

pub returns-then-eq : goal.returns-then-eq
returns-then-eq c = same_ordered c.args.x.now c.args.y.now (search rules)
