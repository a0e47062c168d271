-- `listing::put_section` meets its contract.
use Rattle.listing.proofs.FileLaws.{no_line, put_none, its_room, its_put}
use Rattle.listing.proofs.files.put_section.Goals as goal

pub returns-then-not-p : goal.returns-then-not-p
returns-then-not-p c = put_none _ _ _ (no_line c.args.text.now c.args.number c.args.p c.if-not-p.true)

pub put_board_line-requires : goal.put_board_line-requires
put_board_line-requires c = its_room c.args.text.now c.args.number c.args.p c.if-not-p.false _ c.section_heading.ensures _ _ c.requires.0

pub returns : goal.returns
returns c = its_put c.args.text.now c.args.number c.args.p c.if-not-p.false _ c.section_heading.ensures _ _ c.put_board_line.ensures
