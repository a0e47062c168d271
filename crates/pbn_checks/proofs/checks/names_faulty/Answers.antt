-- `pbn_checks::names_faulty` meets its contract.
use mathlib.Core.Path.{ap}
use Rattle.std.proofs.Common.{rules, ◌∙◌}
use Rattle.std.proofs.lemmas.Iterator.{YieldsList-from_slice}
use Rattle.std.proofs.lemmas.Iterator.Search.{any_from_yields_List}
use Rattle.lin_spec.specs.Base.{any}
use Rattle.lin_spec.specs.Lent.{span_in}
use Rattle.lin_spec.specs.Pbn.{name_spans}
use Rattle.text.specs.Fault.{fault_of}
use Rattle.board_lent.proofs.LentLaws.{any_is}
use Rattle.pbn_checks.proofs.CheckLaws.{any-each}
use Rattle.pbn_checks.proofs.checks.names_faulty.Goals as goal

pub returns : goal.returns
returns c =
    any_from_yields_List (λ x. any (fault_of c.args.fault c.args.text.now) (span_in x)) _ _ _ c.any.ensures.ran (YieldsList-from_slice c.pbn_names.result cc) (λ x b q k. search rules)
    ∙ any_is _ _
    ∙ any-each _ (λ x. span_in x) _
    ∙ ap (λ xs. any (fault_of c.args.fault c.args.text.now) (name_spans xs)) c.pbn_names.ensures
