-- `listing_lines::put_header` meets its contract: one put.
use Rattle.listing_lines.proofs.LineLaws.{header_is}
use Rattle.listing_lines.proofs.lines.put_header.Goals as goal

pub put_all-requires : goal.put_all-requires
put_all-requires c = record { room = (rw header_is at c.requires).room }

pub returns : goal.returns
returns c = rw header_is c.put_all.ensures
