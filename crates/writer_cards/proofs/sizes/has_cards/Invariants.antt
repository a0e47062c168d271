-- `writer_cards::sizes::has_cards` meets its contract: a turn looks at a count.
use mathlib.Core.Path.{◌≡◌}
use mathlib.Core.Bool.{◌||◌}
use lib.ListN.{drop}
use Rattle.lin_spec.specs.Base.{any}
use Rattle.writer_cards.specs.Sizes.{counted}
use Rattle.writer_cards.proofs.sizes.has_cards.Given as goal

abbrev pub invariant-loop-n : goal.invariant-loop-n
invariant-loop-n l = (l.found || any counted (drop l.n-index l.counts)) ≡ any counted l.counts
