-- `writer_cards::hands::put_hand` meets its contract: by the test, nothing or the suits.
use Rattle.writer_cards.proofs.PutLaws.{put_none, room_as, put_as}
use Rattle.writer_cards.proofs.HandLaws.{hand-none, hand_suits}
use Rattle.writer_cards.proofs.hands.put_hand.Goals as goal

pub returns-then-n-eq0 : goal.returns-then-n-eq0
returns-then-n-eq0 c = put_none _ _ _ (hand-none _ _ c.requires.1 c.if-n-eq0.true)

pub put_suits-requires : goal.put_suits-requires
put_suits-requires c = (room_as _ _ (hand_suits _ c.args.seat _ _ c.requires.1 c.if-n-eq0.false c.number.ensures.0) c.requires.0, c.number.ensures.1)

pub returns : goal.returns
returns c = put_as _ _ (hand_suits _ c.args.seat _ _ c.requires.1 c.if-n-eq0.false c.number.ensures.0) c.put_suits.ensures
