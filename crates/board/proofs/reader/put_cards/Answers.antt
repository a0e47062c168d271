-- `board::put_cards` meets its contract: a turn takes one card off those that are left to store.
use Rattle.board.proofs.ReaderLaws.{given-card, all-cards, card-left, cards-left}
use Rattle.output.proofs.Laws.{roomy, step, finish}
use lib.ListN.{length}
use mathlib.Core.Path.{ap}
use native.Mathlib.Omega.{arith}
use Rattle.board.proofs.reader.put_cards.Goals as goal

pub loop-c-init : goal.loop-c-init
loop-c-init c = all-cards _ _ _ c.requires.0

pub next_card-requires : goal.next_card-requires
next_card-requires c = c.requires.1

pub put-n-requires : goal.put-n-requires
put-n-requires c = roomy _ _ (card-left _ _ c.loop-c.invariant _ _ (given-card _ _ _ _ c.next_card.ensures c.in-Some.is))

pub loop-c-smaller : goal.loop-c-smaller
loop-c-smaller c = let e = ap length (given-card _ _ _ _ c.next_card.ensures c.in-Some.is) in omega arith

pub loop-c-preserved : goal.loop-c-preserved
loop-c-preserved c = step (card-left _ _ c.loop-c.invariant _ _ (given-card _ _ _ _ c.next_card.ensures c.in-Some.is)) c.put-n.ensures

pub shape_of-cards-in-None : goal.shape_of-cards-in-None
shape_of-cards-in-None c = c.loop-c.invariant.long

pub returns-in-None : goal.returns-in-None
returns-in-None c = finish (cards-left _ _ c.loop-c.invariant (given-card _ _ _ _ c.next_card.ensures c.in-None.is))
