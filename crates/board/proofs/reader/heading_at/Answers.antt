-- `board::heading_at` meets its contract.
use mathlib.Core.Path.{◌∙◌}
use Rattle.board.proofs.ReaderLaws.{read-heading}
use Rattle.board.proofs.reader.heading_at.Goals as goal

pub returns : goal.returns
returns c = c.with_deal.ensures ∙ read-heading _ _ _ c.read_head.ensures
