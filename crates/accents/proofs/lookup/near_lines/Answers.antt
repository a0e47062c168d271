-- `accents::lookup::near_lines` meets its contract: it makes the tests of the definition.
use mathlib.Core.Path.{refl}
use Rattle.accents.specs.Lines.{near}
use Rattle.accents.proofs.lookup.near_lines.Goals as goal

pub returns : goal.returns
unfolding near
returns c = refl
