-- `listing_lines::accepted_line` meets its contract: its answer by the test that led there.
use Rattle.listing_lines.proofs.Answers.{line_small, line-done}
use Rattle.listing_lines.proofs.lines.accepted_line.Goals as goal

pub returns-then-room-need : goal.returns-then-room-need
returns-then-room-need c = line_small _ _ _ c.board_line_len-need.ensures _ c.room.ensures c.if-room-need.true

pub returns : goal.returns
returns c = line-done _ _ _ c.board_line_len-need.ensures _ c.room.ensures c.if-room-need.false c.put_board_line-n.ensures
