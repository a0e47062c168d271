-- `pbn_words::part_word` meets its contract: the word by the first byte.
use Rattle.pbn_words.proofs.WordLaws.{front-none, front_equals, front_nag, front-mark, front-other}
use Rattle.pbn_words.proofs.words.part_word.Goals as goal

pub returns-then-part-eq0 : goal.returns-then-part-eq0
returns-then-part-eq0 c = front-none _ _ c.if-part-eq0.true

pub returns-then-b-eq61 : goal.returns-then-b-eq61
returns-then-b-eq61 c = front_equals _ _ c.if-part-eq0.false c.if-b-eq61.true _ c.equals_word.ensures

pub returns-then-b-eq36 : goal.returns-then-b-eq36
returns-then-b-eq36 c = front_nag _ _ c.if-part-eq0.false c.if-b-eq61.false c.if-b-eq36.true _ c.nag_of.ensures

pub returns-then-is_mark : goal.returns-then-is_mark
returns-then-is_mark c = front-mark _ _ c.if-part-eq0.false c.if-b-eq61.false c.if-b-eq36.false _ c.is_mark.ensures c.if-is_mark.true

pub returns : goal.returns
returns c = front-other _ _ c.if-part-eq0.false c.if-b-eq61.false c.if-b-eq36.false _ c.is_mark.ensures c.if-is_mark.false
