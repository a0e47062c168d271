-- `listing_lines::header_line` meets its contract: its answer by the test that led there.
use Rattle.listing_lines.proofs.LineLaws.{header-long}
use Rattle.listing_lines.proofs.Answers.{line_small, line-fits, line-done}
use Rattle.listing_lines.proofs.lines.header_line.Goals as goal

pub returns-then-room-need : goal.returns-then-room-need
returns-then-room-need c = line_small _ _ _ header-long _ c.room.ensures c.if-room-need.true

pub put_header-n-requires : goal.put_header-n-requires
put_header-n-requires c = line-fits _ _ _ header-long _ c.room.ensures c.if-room-need.false

pub returns : goal.returns
returns c = line-done _ _ _ header-long _ c.room.ensures c.if-room-need.false c.put_header-n.ensures
