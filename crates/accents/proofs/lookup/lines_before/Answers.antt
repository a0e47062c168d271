-- `accents::lookup::lines_before` meets its contract: by one computed test of all blocks.
use Rattle.accents.specs.Lines.{blocks}
use Rattle.accents.proofs.BlockLaws.{blocks-are}
use Rattle.accents.proofs.lookup.lines_before.Goals as goal

pub returns : goal.returns
unfolding blocks
returns c = blocks-are _ c.requires
