-- `file_finder::finder::find_name` meets its contract: each answer by the tests that led there.
use Rattle.file_finder.proofs.FinderLaws.{find-long, find_name_long, find-ill, find_name_ill, both-well, find-checked}
use Rattle.file_finder.proofs.finder.find_name.Goals as goal

pub returns-then-text-gt-LIMIT : goal.returns-then-text-gt-LIMIT
returns-then-text-gt-LIMIT c = find-long _ _ _ c.if-text-gt-LIMIT.true

pub returns-then-name-gt-LIMIT : goal.returns-then-name-gt-LIMIT
returns-then-name-gt-LIMIT c = find_name_long _ _ _ c.if-text-gt-LIMIT.false c.if-name-gt-LIMIT.true

pub returns-then-good-text : goal.returns-then-good-text
returns-then-good-text c = find-ill _ _ _ c.if-text-gt-LIMIT.false c.if-name-gt-LIMIT.false _ c.well_formed_len-good.ensures c.if-good-text.true

pub returns-then-well-name : goal.returns-then-well-name
returns-then-well-name c = find_name_ill _ _ _ c.if-text-gt-LIMIT.false c.if-name-gt-LIMIT.false _ c.well_formed_len-good.ensures c.if-good-text.false _ c.well_formed_len-well.ensures c.if-well-name.true

pub find_checked-requires : goal.find_checked-requires
find_checked-requires c = both-well _ _ c.args.work.now c.if-text-gt-LIMIT.false c.if-name-gt-LIMIT.false _ c.well_formed_len-good.ensures c.if-good-text.false _ c.well_formed_len-well.ensures c.if-well-name.false

pub returns : goal.returns
returns c = find-checked _ _ _ c.if-text-gt-LIMIT.false c.if-name-gt-LIMIT.false _ c.well_formed_len-good.ensures c.if-good-text.false _ c.well_formed_len-well.ensures c.if-well-name.false _ _ c.find_checked.ensures
