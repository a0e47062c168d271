-- `writer_cards::put_md` meets its contract: by the test, commas or the hands.
use Rattle.writer_cards.proofs.PutLaws.{room_as, put_as}
use Rattle.writer_cards.proofs.SizeLaws.{md-bare}
use Rattle.writer_cards.proofs.deals.put_md.Goals as goal

pub put_bare-requires : goal.put_bare-requires
put_bare-requires c = room_as _ _ (md-bare c.args.dealer c.args.counts.now c.args.sizes c.requires.1 c.if-not-sizes.true) c.requires.0

pub returns-then-not-sizes : goal.returns-then-not-sizes
returns-then-not-sizes c = put_as _ _ (md-bare c.args.dealer c.args.counts.now c.args.sizes c.requires.1 c.if-not-sizes.true) c.put_bare.ensures
