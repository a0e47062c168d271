-- `writer_cards::sizes::has_cards` meets its contract: a turn looks at a count.
use native.Mathlib.Omega.{arith}
use mathlib.Core.Path.{refl}
use Rattle.board_lent.proofs.LentLaws.{all-each, or_each}
use Rattle.writer_cards.specs.Sizes.{counted}
use Rattle.writer_cards.proofs.sizes.has_cards.Goals as goal

pub loop-n-preserved : goal.loop-n-preserved
loop-n-preserved c = let l = c.loop-n in or_each counted 0 _ _ l.found l.invariant (omega arith) _ refl

pub returns : goal.returns
returns c = let l = c.loop-n in all-each counted 0 _ l.n-index _ l.invariant (omega arith)
