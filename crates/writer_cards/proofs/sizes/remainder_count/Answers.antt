-- `writer_cards::sizes::remainder_count` meets its contract: the test is the remainder's.
use native.Mathlib.Omega.{arith}
use Rattle.writer_cards.proofs.EastLaws.{rest_free, rest-held}
use Rattle.writer_cards.proofs.sizes.remainder_count.Goals as goal

pub returns-then-counts-card : goal.returns-then-counts-card
returns-then-counts-card c = (rest_free _ c.requires.1 _ c.requires.0 c.if-counts-card.true, omega arith)

pub returns : goal.returns
returns c = (rest-held _ c.requires.1 _ c.requires.0 c.if-counts-card.false, omega arith)
