-- `board_lent::any_present` meets its contract: in each arm the text is known.
use mathlib.Core.Path.{◌∙◌}
use Rattle.board_lent.proofs.LentLaws.{absent_none, present-one}
use Rattle.board_lent.proofs.checks.any_present.Goals as goal

pub returns-in-None : goal.returns-in-None
returns-in-None g c = λ p h. absent_none p _ c.in-None.is

pub returns : goal.returns
returns g c = λ p h. h _ _ c.test.ensures ∙ present-one p _ _ c.in-Some.is
