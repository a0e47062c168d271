-- `writer_cards::format_cardplay_by_trick` meets its contract: each answer by the tests that led there.
use Rattle.writer_cards.proofs.Answers.{play-range, play-small, play-fits, play-done}
use Rattle.writer_cards.proofs.play.format_cardplay_by_trick.Goals as goal

pub returns-then-bad_cards : goal.returns-then-bad_cards
returns-then-bad_cards c = play-range _ _ _ c.bad_cards.ensures c.if-bad_cards.true

pub returns-then-room-need : goal.returns-then-room-need
returns-then-room-need c = play-small _ _ _ c.bad_cards.ensures c.if-bad_cards.false _ c.play_len-need.ensures _ c.room.ensures c.if-room-need.true

pub put_play-n-requires : goal.put_play-n-requires
put_play-n-requires c = play-fits _ _ _ c.bad_cards.ensures c.if-bad_cards.false _ c.play_len-need.ensures _ c.room.ensures c.if-room-need.false

pub returns : goal.returns
returns c = play-done _ _ _ c.bad_cards.ensures c.if-bad_cards.false _ c.play_len-need.ensures _ c.room.ensures c.if-room-need.false c.put_play-n.ensures
