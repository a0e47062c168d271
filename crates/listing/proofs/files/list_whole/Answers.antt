-- `listing::list_whole` meets its contract: no listing is refused the room.
use Rattle.listing.proofs.FitLaws.{whole_put}
use Rattle.listing.proofs.files.list_whole.Goals as goal

pub returns : goal.returns
returns c = whole_put c.args.text.now c.args.out.now c.list_file-arg-1.given.0.1 _ _ c.list_file.ensures _ c.unwrap_or.ensures
