-- `file_finder::measure::most_of` meets its contract: a turn passes a name.
use Prim.Native.Nat.{max}
use mathlib.Core.Path.{◌≡◌}
use mathlib.Core.List.{map}
use lib.ListN.{drop}
use Rattle.lin_spec.specs.Records.{bytes_at}
use Rattle.accents.specs.Names.{places}
use Rattle.file_finder.specs.Finder.{greatest}
use Rattle.file_finder.proofs.measure.most_of.Given as goal

abbrev pub invariant-loop-x : goal.invariant-loop-x
invariant-loop-x l = max l.most (greatest (map (λ x. places (bytes_at l.text x)) (drop l.x-index l.x-items))) ≡ greatest (map (λ x. places (bytes_at l.text x)) l.x-items)
