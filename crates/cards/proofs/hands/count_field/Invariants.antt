-- `cards::hands::count_field` meets its contract. The loop's invariant: at the seat's place stands a hand of which the rest of the field makes
-- what the whole makes of none, with no more cards counted than bytes are passed. The measure is what is left. (01: Board, md)
use Rattle.cards.proofs.HandLaws.{Fielded}
use Rattle.cards.proofs.hands.count_field.Given as goal

abbrev pub invariant-loop-i : goal.invariant-loop-i
invariant-loop-i l = Fielded l.s l.at l.initial.counts l.counts l.seat l.suit l.i
