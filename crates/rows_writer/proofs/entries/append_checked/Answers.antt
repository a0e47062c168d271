-- `rows_writer::append_checked` meets its contract: too small, or put whole.
use Rattle.board_lent.specs.Heads.{board_of}
use Rattle.rows_writer.proofs.BeginLaws.{fit_small, front-room, calls-room, back-room, fit-done}
use Rattle.rows_writer.proofs.entries.append_checked.Goals as goal

pub returns-then-room-sat_add : goal.returns-then-room-sat_add
returns-then-room-sat_add c = fit_small c.args.text.now (board_of c.args.head c.args.counts.now) c.args.rows.now c.args.cards.now c.args.out.now c.args.used _ _ (c.others_len.ensures c.args.counts.now c.sizes_of-sizes.ensures.0) _ c.requires.2 c.sat_add-need.ensures _ _ c.room.ensures c.sat_add.ensures c.if-room-sat_add.true

pub put_front-a-requires : goal.put_front-a-requires
put_front-a-requires c = (front-room c.args.text.now (board_of c.args.head c.args.counts.now) c.args.rows.now c.args.cards.now c.args.out.now c.args.used _ _ (c.others_len.ensures c.args.counts.now c.sizes_of-sizes.ensures.0) _ c.requires.2 c.sat_add-need.ensures _ _ c.room.ensures c.sat_add.ensures c.if-room-sat_add.false, c.sizes_of-sizes.ensures.0)

pub put_rows-b-requires : goal.put_rows-b-requires
put_rows-b-requires c = calls-room c.args.text.now (board_of c.args.head c.args.counts.now) c.args.rows.now c.args.cards.now c.args.out.now c.args.used _ _ (c.others_len.ensures c.args.counts.now c.sizes_of-sizes.ensures.0) _ c.requires.2 c.sat_add-need.ensures _ _ c.room.ensures c.sat_add.ensures c.if-room-sat_add.false _ _ c.put_front-a.ensures

pub put_back-requires : goal.put_back-requires
put_back-requires c = (back-room c.args.text.now (board_of c.args.head c.args.counts.now) c.args.rows.now c.args.cards.now c.args.out.now c.args.used _ _ (c.others_len.ensures c.args.counts.now c.sizes_of-sizes.ensures.0) _ c.requires.2 c.sat_add-need.ensures _ _ c.room.ensures c.sat_add.ensures c.if-room-sat_add.false _ _ c.put_front-a.ensures _ _ c.put_rows-b.ensures, c.requires.1)

pub returns : goal.returns
returns c = fit-done c.args.text.now (board_of c.args.head c.args.counts.now) c.args.rows.now c.args.cards.now c.args.out.now c.args.used _ _ (c.others_len.ensures c.args.counts.now c.sizes_of-sizes.ensures.0) _ c.requires.2 c.sat_add-need.ensures _ _ c.room.ensures c.sat_add.ensures c.if-room-sat_add.false _ _ c.put_front-a.ensures _ _ c.put_rows-b.ensures _ _ c.put_back.ensures
