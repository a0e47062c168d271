-- `writer_cards::deals::put_east` meets its contract: by the test, nothing or a comma and a hand.
use Rattle.writer_cards.proofs.PutLaws.{put_none, first-room, second-room, put_both}
use Rattle.writer_cards.proofs.DealLaws.{east_out, east_in}
use Rattle.writer_cards.proofs.deals.put_east.Goals as goal

pub returns-then-sizes : goal.returns-then-sizes
returns-then-sizes c = put_none _ _ _ (east_out _ _ c.requires.1.implied c.if-sizes.true)

pub put-a-requires : goal.put-a-requires
put-a-requires c = first-room _ _ _ (east_in _ _ c.requires.1.implied c.if-sizes.false) c.requires.0

pub put_hand-requires : goal.put_hand-requires
put_hand-requires c = (second-room _ _ _ (east_in _ _ c.requires.1.implied c.if-sizes.false) c.requires.0 c.put-a.ensures, c.requires.1.east)

pub returns : goal.returns
returns c = put_both _ _ _ (east_in _ _ c.requires.1.implied c.if-sizes.false) c.requires.0 c.put-a.ensures c.put_hand.ensures
