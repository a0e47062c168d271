-- `board_loop::dealt_by` meets its contract: before the first md, or from its value.
use Rattle.board_loop.proofs.DealingLaws.{none-dealt, short-value, from-none}
use mathlib.Core.Path.{◌∙◌}
use Rattle.board_loop.proofs.dealing.dealt_by.Goals as goal

pub read_md-requires : goal.read_md-requires
read_md-requires c = (c.requires.0, short-value _ _ _ c.requires.1 c.trim.ensures c.shown.ensures)

pub returns-in-None : goal.returns-in-None
returns-in-None c = none-dealt _ c.requires.0 ∙ from-none _ _ c.in-None.is
