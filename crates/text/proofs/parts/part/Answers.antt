-- `text::part` meets its contract: nothing, the rest of the text, or a part within it.
use Rattle.text.proofs.PartLaws.{part-past, part_to_end, part-within}
use Rattle.text.proofs.parts.part.Goals as goal

pub returns-then-s-start : goal.returns-then-s-start
returns-then-s-start c = part-past _ _ _ c.if-s-start.true

pub returns-then-s-start-2 : goal.returns-then-s-start-2
returns-then-s-start-2 c = part_to_end _ _ _ c.if-s-start-2.true

pub returns : goal.returns
returns c = part-within _ _ _
