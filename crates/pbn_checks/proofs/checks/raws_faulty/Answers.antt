-- `pbn_checks::raws_faulty` meets its contract: a row is a call.
use Rattle.std.proofs.Common.{rules, ◌∙◌}
use Rattle.std.proofs.lemmas.Iterator.{YieldsList-from_slice}
use Rattle.std.proofs.lemmas.Iterator.Search.{any_from_yields_List}
use Rattle.lin_spec.specs.Base.{any}
use Rattle.lin_spec.specs.Lent.{span_in}
use Rattle.lin_spec.specs.Pbn.{pbn_row, raw_of}
use Rattle.text.specs.Fault.{fault_of}
use Rattle.board_lent.specs.Calls.{of_row}
use Rattle.board_lent.proofs.LentLaws.{any_is, any-chunks}
use Rattle.pbn_checks.proofs.CheckLaws.{any-each}
use Rattle.pbn_checks.proofs.checks.raws_faulty.Goals as goal

pub returns : goal.returns
returns c =
    any_from_yields_List (λ r. any (fault_of c.args.fault c.args.text.now) (span_in (raw_of (of_row pbn_row r)))) _ _ _ c.any.ensures.ran (YieldsList-from_slice c.as_chunks.result.0.now cc) (λ x b q k. search rules)
    ∙ any_is _ _
    ∙ any-chunks pbn_row (λ x. any (fault_of c.args.fault c.args.text.now) (span_in (raw_of x))) c.args.calls.now _ c.as_chunks.ensures.front
    ∙ any-each _ (λ x. span_in (raw_of x)) _
