use borrow.Author.Rules.{rules}
use Rattle.output.proofs.Laws.{set-overlay}
use Rattle.output.proofs.put.Goals as goal

pub returns : goal.returns
returns g c = record { next = search rules; text = set-overlay _ _ _ (search rules) }
