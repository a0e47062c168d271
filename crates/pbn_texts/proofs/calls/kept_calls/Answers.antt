-- `pbn_texts::kept_calls` meets its contract: a row is a call.
use mathlib.Core.Path.{ap, ◌∙◌}
use borrow.Author.Tests.{tests}
use Rattle.std.proofs.Common.{rules}
use Rattle.std.proofs.lemmas.Iterator.{YieldsList-from_slice}
use Rattle.std.proofs.lemmas.Iterator.Consumers.{YieldsList-from_filter, count_from_yields_List}
use Rattle.lin_spec.specs.Pbn.{pbn_row}
use Rattle.board_lent.specs.Calls.{of_row}
use Rattle.pbn_texts.specs.Calls.{is_kept, kept_many}
use Rattle.pbn_texts.proofs.CallLaws.{calls-are, many-kept}
use Rattle.pbn_texts.proofs.calls.kept_calls.Goals as goal

pub returns : goal.returns
returns c =
    count_from_yields_List c.filter.result _ c.count.ensures.ran (YieldsList-from_filter _ (λ r. is_kept (of_row pbn_row r)) (YieldsList-from_slice c.as_chunks.result.0.now cc) c.filter.ensures.closure (λ x b q k. search (rules, tests)))
    ∙ many-kept _
    ∙ ap kept_many (calls-are _ _ c.as_chunks.ensures.front)
