-- `board::roomy` meets its contract.
use Rattle.board.proofs.ReaderLaws.{places}
use Rattle.board.proofs.reader.roomy.Goals as goal

pub returns : goal.returns
returns c = places _ _ _
