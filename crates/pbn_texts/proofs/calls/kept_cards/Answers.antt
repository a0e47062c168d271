-- `pbn_texts::kept_cards` meets its contract: the entries that are no gap are counted.
use mathlib.Core.Path.{ap, ◌∙◌}
use mathlib.Core.Bool.{not}
use lib.ListN.{length}
use lib.Dec.{eqb}
use borrow.Author.Tests.{tests}
use Rattle.std.proofs.Common.{rules}
use Rattle.std.proofs.lemmas.Iterator.{YieldsList-from_slice}
use Rattle.std.proofs.lemmas.Iterator.Consumers.{YieldsList-from_filter, count_from_yields_List}
use Rattle.pbn_texts.proofs.CallLaws.{keep-filter}
use Rattle.pbn_texts.proofs.calls.kept_cards.Goals as goal

pub returns : goal.returns
returns c =
    count_from_yields_List c.filter.result _ c.count.ensures.ran (YieldsList-from_filter _ (λ b. not (eqb b 255)) (YieldsList-from_slice c.args.plays.now cc) c.filter.ensures.closure (λ x b q k. search (rules, tests)))
    ∙ ap length (keep-filter _ c.args.plays.now)
