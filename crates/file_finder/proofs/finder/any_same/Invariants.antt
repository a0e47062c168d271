-- `file_finder::finder::any_same` meets its contract: a turn passes another name.
use Rattle.file_finder.proofs.FinderLaws.{Seats}
use Rattle.file_finder.proofs.finder.any_same.Given as goal

abbrev pub invariant-loop-x : goal.invariant-loop-x
invariant-loop-x l = Seats l.mappings l.text l.name l.sought l.x-items l.initial.work l.work l.x-index
