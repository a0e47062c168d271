-- `board::put_cards` meets its contract: a turn takes one card off those that are left to store.
use Rattle.board_loop.specs.Head.{board_at}
use Rattle.board_loop.specs.Play.{cards_from}
use Rattle.output.proofs.Laws.{Left}
use Rattle.lin_spec.specs.Reading.{stream}
use lib.ListN.{length}
use Rattle.board.proofs.reader.put_cards.Given as goal

abbrev pub invariant-loop-c : goal.invariant-loop-c
invariant-loop-c l = Left l.cards l.n (cards_from l.text (stream l.text l.cursor.at)) l.initial.cards 0 (board_at l.text l.at).play

abbrev pub decreases-loop-c : goal.decreases-loop-c
decreases-loop-c l = length (cards_from l.text (stream l.text l.cursor.at))
