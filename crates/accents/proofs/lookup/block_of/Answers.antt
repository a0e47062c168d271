-- `accents::lookup::block_of` meets its contract: the blocks of each of two runs follow each other.
use native.Mathlib.Omega.{arith}
use Rattle.accents.proofs.BlockLaws.{near_from, low_block, high_block}
use Rattle.accents.proofs.lookup.block_of.Goals as goal

pub overflow_sub-result : goal.overflow_sub-result
overflow_sub-result c = let a = near_from _ c.requires in omega arith

pub returns-then-c-lt7680 : goal.returns-then-c-lt7680
returns-then-c-lt7680 c = low_block _ c.requires c.if-c-lt7680.true

pub returns : goal.returns
returns c = high_block _ c.requires c.if-c-lt7680.false
