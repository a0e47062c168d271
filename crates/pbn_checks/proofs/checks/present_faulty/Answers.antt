-- `pbn_checks::present_faulty` meets its contract: in each arm the text is known.
use mathlib.Core.Path.{◌∙◌}
use Rattle.board_lent.proofs.LentLaws.{absent_none, present-one}
use Rattle.pbn_checks.proofs.checks.present_faulty.Goals as goal

pub returns-in-None : goal.returns-in-None
returns-in-None c = absent_none _ _ c.in-None.is

pub returns-in-Some : goal.returns-in-Some
returns-in-Some c = c.faulty.ensures ∙ present-one _ _ _ c.in-Some.is
