-- `board_loop::store_last` meets its contract: the last three words of the last row.
use Rattle.board_loop.proofs.StoringLaws.{last-room}
use Rattle.board_loop.proofs.storing.store_last.Goals as goal

pub store_note-requires : goal.store_note-requires
store_note-requires c = last-room _ _ _ c.if-i-gt0.true c.requires
