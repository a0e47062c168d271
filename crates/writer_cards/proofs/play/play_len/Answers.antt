-- `writer_cards::play::play_len` meets its contract: three bytes for each card, but for the last one two.
use native.Mathlib.Omega.{arith}
use Rattle.writer_cards.proofs.PlayLaws.{play-long}
use Rattle.writer_cards.proofs.play.play_len.Goals as goal

pub returns-then-n-eq0 : goal.returns-then-n-eq0
returns-then-n-eq0 c = omega (arith, play-long c.args.cards.now)

pub returns-then-n-gt6148914691236517205 : goal.returns-then-n-gt6148914691236517205
returns-then-n-gt6148914691236517205 c = omega (arith, play-long c.args.cards.now)

pub returns : goal.returns
returns c = omega (arith, play-long c.args.cards.now)
