-- `pbn_checks::bad_calls` meets its contract: a row is a call.
use Rattle.std.proofs.Common.{rules, ◌∙◌}
use Rattle.std.proofs.lemmas.Iterator.{YieldsList-from_slice}
use Rattle.std.proofs.lemmas.Iterator.Search.{any_from_yields_List}
use Rattle.lin_spec.specs.Pbn.{pbn_row, bad_call}
use Rattle.board_lent.specs.Calls.{of_row}
use Rattle.board_lent.proofs.LentLaws.{any_is, any-chunks}
use Rattle.pbn_checks.proofs.checks.bad_calls.Goals as goal

pub returns : goal.returns
returns c =
    any_from_yields_List (λ r. bad_call (of_row pbn_row r)) _ _ _ c.any.ensures.ran (YieldsList-from_slice c.as_chunks.result.0.now cc) (λ x b q k. search rules)
    ∙ any_is _ _
    ∙ any-chunks pbn_row bad_call c.args.calls.now _ c.as_chunks.ensures.front
