-- `writer_cards::hands::put_suit` meets its contract: two puts.
use Rattle.writer_cards.proofs.PutLaws.{first-room, second-room, put_both}
use Rattle.writer_cards.proofs.HandLaws.{suit_is}
use Rattle.writer_cards.proofs.hands.put_suit.Goals as goal

pub put-a-requires : goal.put-a-requires
put-a-requires c = first-room _ _ _ (suit_is _ _ _ c.suit_letter.ensures) c.requires.0

pub put_ranks-requires : goal.put_ranks-requires
put_ranks-requires c = (second-room _ _ _ (suit_is _ _ _ c.suit_letter.ensures) c.requires.0 c.put-a.ensures, c.requires.1, c.requires.2)

pub returns : goal.returns
returns c = put_both _ _ _ (suit_is _ _ _ c.suit_letter.ensures) c.requires.0 c.put-a.ensures c.put_ranks.ensures
