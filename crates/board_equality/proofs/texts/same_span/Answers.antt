-- `board_equality::same_span` meets its contract: near spans name the same bytes, and of others these are compared.
use mathlib.Core.Path.{sym, ◌∙◌}
use Rattle.board_equality.proofs.EqualityLaws.{near-span}
use Rattle.board_equality.proofs.texts.same_span.Goals as goal

pub returns-then-near : goal.returns-then-near
returns-then-near c = near-span c.args.text.now c.args.text2.now c.args.first c.requires c.args.x c.args.y (sym c.near.ensures ∙ c.if-near.true)
