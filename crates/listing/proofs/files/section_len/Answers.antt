-- `listing::section_len` meets its contract.
use Rattle.listing.proofs.FileLaws.{no_line-long, its_line-long}
use Rattle.listing.proofs.files.section_len.Goals as goal

pub returns-then-not-p : goal.returns-then-not-p
returns-then-not-p c = no_line-long c.args.text.now c.args.number c.args.p c.if-not-p.true

pub returns : goal.returns
returns c = its_line-long c.args.text.now c.args.number c.args.p c.if-not-p.false _ c.section_heading.ensures _ c.board_line_len.ensures
