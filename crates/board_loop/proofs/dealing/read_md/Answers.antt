-- `board_loop::read_md` meets its contract: no byte, no dealer, or dealer and deal.
use Rattle.board_loop.proofs.DealingLaws.{none-dealt, md_empty, md-none, md-given}
use mathlib.Core.Path.{sym, ◌∙◌}
use Rattle.board_loop.proofs.dealing.read_md.Goals as goal

pub returns-then-s-eq0 : goal.returns-then-s-eq0
returns-then-s-eq0 c = none-dealt _ c.requires.0 ∙ md_empty _ _ c.if-s-eq0.true

pub returns-in_default : goal.returns-in_default
returns-in_default c = none-dealt _ c.requires.0 ∙ md-none _ _ c.if-s-eq0.false (sym c.dealer_of.ensures ∙ c.in_default.is)

pub returns : goal.returns
returns c = md-given _ _ _ c.if-s-eq0.false (sym c.dealer_of.ensures ∙ c.in-Some.is) _ c.count_deal.ensures
