-- `writer::append_checked` meets its contract: its answer by the test that led there.
use Rattle.writer.proofs.Answers.{fit_small, fit-room, fit-done}
use Rattle.writer.proofs.entries.append_checked.Goals as goal

pub board_len-need-requires : goal.board_len-need-requires
board_len-need-requires c = c.sizes_of-sizes.ensures.1

pub returns-then-room-used : goal.returns-then-room-used
returns-then-room-used c = fit_small _ _ _ c.requires.0 _ (c.board_len-need.ensures c.args.counts.now c.sizes_of-sizes.ensures.0) _ c.room.ensures c.if-room-used.true

pub put_board-n-requires : goal.put_board-n-requires
put_board-n-requires c = (fit-room _ _ _ c.requires.0 _ (c.board_len-need.ensures c.args.counts.now c.sizes_of-sizes.ensures.0) _ c.room.ensures c.if-room-used.false, c.requires.1, c.sizes_of-sizes.ensures.0)

pub returns : goal.returns
returns c = fit-done _ _ _ c.requires.0 _ (c.board_len-need.ensures c.args.counts.now c.sizes_of-sizes.ensures.0) _ c.room.ensures c.if-room-used.false c.put_board-n.ensures
