-- `writer_cards::letters::put_letters` meets its contract: two puts of a byte.
use Rattle.writer_cards.proofs.PutLaws.{put_both}
use Rattle.writer_cards.proofs.TrickLaws.{letters_are}
use Rattle.writer_cards.proofs.letters.put_card_letters.Goals as goal

pub returns : goal.returns
returns c = put_both _ _ _ (letters_are c.args.card _ _ c.suit_letter.ensures c.rank_letter.ensures) c.requires.0 c.put-a.ensures c.put.ensures
