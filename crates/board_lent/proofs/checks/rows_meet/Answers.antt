-- `board_lent::rows_meet` meets its contract.
use Rattle.std.proofs.Common.{rules, ◌∙◌}
use Rattle.std.proofs.lemmas.Iterator.{YieldsList-from_slice}
use Rattle.std.proofs.lemmas.Iterator.Search.{any_from_yields_List}
use Rattle.lin_spec.specs.Base.{any}
use Rattle.lin_spec.specs.Lent.{call_row}
use Rattle.board_lent.specs.Calls.{call_of, spans_of_call}
use Rattle.board_lent.specs.Checks.{amiss}
use Rattle.board_lent.proofs.LentLaws.{any_is, any-chunks}
use Rattle.board_lent.proofs.checks.rows_meet.Goals as goal

pub returns : goal.returns
returns c =
    any_from_yields_List (λ r. any (amiss c.args.text.now) (spans_of_call (call_of r))) _ _ _ c.any.ensures.ran (YieldsList-from_slice c.as_chunks.result.0.now cc) (λ x b q k. search rules)
    ∙ any_is _ _
    ∙ any-chunks call_row _ c.args.rows.now _ c.as_chunks.ensures.front
