-- `accents::lookup::class_of` meets its contract: by the table, and 0 outside of it.
use Rattle.accents.proofs.ClassLaws.{class_below, class-past, class-at}
use Rattle.accents.proofs.lookup.class_of.Goals as goal

pub returns-then-c-lt768 : goal.returns-then-c-lt768
returns-then-c-lt768 c = class_below _ c.if-c-lt768.true

pub returns-then-c-gt879 : goal.returns-then-c-gt879
returns-then-c-gt879 c = class-past _ c.if-c-gt879.true

pub returns : goal.returns
returns c = class-at _ _ c.requires c.if-c-lt768.false
