-- `listing::list_from` meets its contract: its answer by the test that led there.
use Rattle.listing.proofs.FileLaws.{whole-small, header-room, lines-room, whole-done}
use Rattle.listing.proofs.files.list_from.Goals as goal

pub returns-then-room-need : goal.returns-then-room-need
returns-then-room-need c = whole-small c.args.text.now c.args.out.now _ _ c.lines_len.ensures c.sat_add-need.ensures _ c.room.ensures c.if-room-need.true

pub put_header-a-requires : goal.put_header-a-requires
put_header-a-requires c = header-room c.args.text.now c.args.out.now _ _ c.lines_len.ensures c.sat_add-need.ensures _ c.room.ensures c.if-room-need.false

pub put_lines-n-requires : goal.put_lines-n-requires
put_lines-n-requires c = (lines-room c.args.text.now c.args.out.now _ _ c.lines_len.ensures c.sat_add-need.ensures _ c.room.ensures c.if-room-need.false c.put_header-a.ensures, c.requires)

pub returns : goal.returns
returns c = whole-done c.args.text.now c.args.out.now _ _ c.lines_len.ensures c.sat_add-need.ensures _ c.room.ensures c.if-room-need.false c.put_header-a.ensures c.put_lines-n.ensures
