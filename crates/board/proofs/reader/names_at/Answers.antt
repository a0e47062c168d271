-- `board::names_at` meets its contract.
use Rattle.board.proofs.ReaderLaws.{read_names}
use Rattle.board.proofs.reader.names_at.Goals as goal

pub returns : goal.returns
returns c = read_names _ _ _ c.read_head-h.ensures
