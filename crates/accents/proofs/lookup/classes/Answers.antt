-- `accents::lookup::classes` meets its contract: the code's classes are those of the definitions, by computation.
use mathlib.Core.Path.{refl}
use Rattle.accents.specs.Table.{classes}
use Rattle.accents.proofs.lookup.classes.Goals as goal

pub returns : goal.returns
unfolding classes
returns c = refl
