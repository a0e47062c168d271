-- `accents::lookup::mappings` meets its contract: the code's table is that of the definitions, by computation.
use mathlib.Core.Path.{refl}
use Rattle.accents.specs.Table.{mapping_table}
use Rattle.accents.specs.Lines.{table_words}
use Rattle.accents.proofs.lookup.mappings.Goals as goal

pub returns : goal.returns
unfolding table_words mapping_table
returns c = refl
