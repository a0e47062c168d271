-- `pbn_checks::bad_plays` meets its contract.
use Rattle.std.proofs.Common.{rules, ◌∙◌}
use Rattle.std.proofs.lemmas.Iterator.{YieldsList-from_slice}
use Rattle.std.proofs.lemmas.Iterator.Search.{any_from_yields_List}
use Rattle.lin_spec.specs.Pbn.{bad_entry}
use Rattle.board_lent.proofs.LentLaws.{any_is}
use Rattle.pbn_checks.proofs.checks.bad_plays.Goals as goal

pub returns : goal.returns
returns c = any_from_yields_List bad_entry _ _ _ c.any.ensures.ran (YieldsList-from_slice c.args.plays.now cc) (λ x b q k. search rules) ∙ any_is _ _
