-- `rows::bad_flags` meets its contract.
use Rattle.std.proofs.Common.{rules, ◌∙◌}
use Rattle.std.proofs.lemmas.Iterator.{YieldsList-from_slice}
use Rattle.std.proofs.lemmas.Iterator.Search.{any_from_yields_List}
use Rattle.lin_spec.specs.Lent.{call_row, bad_flag}
use Rattle.board_lent.specs.Calls.{call_of}
use Rattle.board_lent.proofs.LentLaws.{any_is, any-chunks}
use Rattle.rows.proofs.answers.bad_flags.Goals as goal

pub returns : goal.returns
returns c =
    any_from_yields_List (λ r. bad_flag (call_of r)) _ _ _ c.any.ensures.ran (YieldsList-from_slice c.as_chunks.result.0.now cc) (λ x b q k. search rules)
    ∙ any_is _ _
    ∙ any-chunks call_row bad_flag c.args.words.now _ c.as_chunks.ensures.front
