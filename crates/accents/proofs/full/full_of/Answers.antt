-- `accents::full::full_of` meets its contract: a line's last has no mapping, and what its first is mapped to has none.
use Rattle.accents.proofs.FullLaws.{full_itself, full-one, full-two, full-two-one, full_three}
use Rattle.accents.proofs.full.full_of.Goals as goal

pub returns-in-Itself : goal.returns-in-Itself
returns-in-Itself c = full_itself _ _ c.mapping_of.ensures c.in-Itself.is

pub returns-in-One : goal.returns-in-One
returns-in-One c = full-one _ _ c.mapping_of.ensures _ c.in-One.is

pub returns-in-Itself-mapping_of : goal.returns-in-Itself-mapping_of
returns-in-Itself-mapping_of c = full-two _ _ c.mapping_of.ensures _ _ c.in-Two.is _ c.mapping_of-in-Two.ensures c.in-Itself-mapping_of.is

pub returns-in-One-mapping_of : goal.returns-in-One-mapping_of
returns-in-One-mapping_of c = full-two-one _ _ c.mapping_of.ensures _ _ c.in-Two.is _ c.mapping_of-in-Two.ensures _ c.in-One-mapping_of.is

pub returns-in-Two-mapping_of : goal.returns-in-Two-mapping_of
returns-in-Two-mapping_of c = full_three _ _ c.mapping_of.ensures _ _ c.in-Two.is _ c.mapping_of-in-Two.ensures _ _ c.in-Two-mapping_of.is
