-- `writer_cards::play::put_between` meets its contract: by the tests, one put or none.
use Rattle.writer_cards.proofs.PutLaws.{put_none, room_as, put_as}
use Rattle.writer_cards.proofs.PlayLaws.{none_between, pipe-between, space_between}
use Rattle.writer_cards.proofs.play.put_between.Goals as goal

pub returns-then-played-eq0 : goal.returns-then-played-eq0
returns-then-played-eq0 c = put_none _ _ _ (none_between _ c.if-played-eq0.true)

pub put-requires : goal.put-requires
put-requires c = room_as _ _ (pipe-between _ c.if-played-eq0.false c.if-played-eq0-2.true) c.requires

pub returns-then-played-eq0-2 : goal.returns-then-played-eq0-2
returns-then-played-eq0-2 c = put_as _ _ (pipe-between _ c.if-played-eq0.false c.if-played-eq0-2.true) c.put.ensures

pub put-requires-2 : goal.put-requires-2
put-requires-2 c = room_as _ _ (space_between _ c.if-played-eq0.false c.if-played-eq0-2.false) c.requires

pub returns : goal.returns
returns c = put_as _ _ (space_between _ c.if-played-eq0.false c.if-played-eq0-2.false) c.put-2.ensures
