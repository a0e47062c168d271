-- `board::with_deal` meets its contract.
use mathlib.Core.Path.{refl}
use Rattle.board.proofs.ReaderLaws.{with-deal}
use Rattle.board.proofs.reader.with_deal.Goals as goal

pub dealt_by-dealer-requires : goal.dealt_by-dealer-requires
dealt_by-dealer-requires c = (refl, c.requires)

pub returns : goal.returns
returns c = with-deal c.args.text.now c.args.h _ _ c.dealt_by-dealer.ensures
