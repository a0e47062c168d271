-- `writer_cards::tricks::put_card` meets its contract: three puts, each of which takes one piece off what is left to write.
use Rattle.output.proofs.Laws.{start, step, finish}
use Rattle.writer_cards.proofs.tricks.put_pc.Goals as goal

pub returns : goal.returns
returns c = finish (step (step (step (start c.requires.0) c.put_all-a.ensures) c.put_card_letters-b.ensures) c.put.ensures)
