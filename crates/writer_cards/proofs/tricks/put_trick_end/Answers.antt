-- `writer_cards::tricks::put_trick_end` meets its contract: by the test, one put or none.
use Rattle.writer_cards.proofs.PutLaws.{put_none, room_as, put_as}
use Rattle.writer_cards.proofs.TrickLaws.{end-here, end_later}
use Rattle.writer_cards.proofs.tricks.put_trick_end.Goals as goal

pub put_all-requires : goal.put_all-requires
put_all-requires c = room_as _ _ (end-here _ _ c.if-played-all.true) c.requires

pub returns-then-played-all : goal.returns-then-played-all
returns-then-played-all c = put_as _ _ (end-here _ _ c.if-played-all.true) c.put_all.ensures

pub returns : goal.returns
returns c = put_none _ _ _ (end_later _ _ c.if-played-all.false)
