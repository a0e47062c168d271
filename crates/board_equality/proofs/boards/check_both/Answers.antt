-- `board_equality::check_both` meets its contract: each verdict by the tests that led there.
use Rattle.board_equality.proofs.EqualityLaws.{most_long, most_long_2, most_other, most_number, most_past, most_ill, most_good}
use Rattle.board_equality.proofs.boards.check_both.Goals as goal

pub returns-then-text-gt-LIMIT : goal.returns-then-text-gt-LIMIT
returns-then-text-gt-LIMIT c = λ counts counts2. most_long _ _ _ c.if-text-gt-LIMIT.true

pub returns-then-text2-gt-LIMIT : goal.returns-then-text2-gt-LIMIT
returns-then-text2-gt-LIMIT c = λ counts counts2. most_long_2 _ _ _ c.if-text-gt-LIMIT.false c.if-text2-gt-LIMIT.true

pub returns-then-other : goal.returns-then-other
returns-then-other c = λ counts counts2. most_other _ _ _ c.if-text-gt-LIMIT.false c.if-text2-gt-LIMIT.false c.if-other.true

pub returns-then-a-b : goal.returns-then-a-b
returns-then-a-b c = λ counts counts2. most_number _ _ _ c.if-text-gt-LIMIT.false c.if-text2-gt-LIMIT.false c.if-other.false _ _ (c.bounds_of-a.ensures counts) (c.bounds_of-b.ensures counts2) c.if-a-b.true

pub returns-then-a-b-2 : goal.returns-then-a-b-2
returns-then-a-b-2 c = λ counts counts2. most_past _ _ _ c.if-text-gt-LIMIT.false c.if-text2-gt-LIMIT.false c.if-other.false _ _ (c.bounds_of-a.ensures counts) (c.bounds_of-b.ensures counts2) c.if-a-b.false c.if-a-b-2.true

pub returns-then-ill_texts : goal.returns-then-ill_texts
returns-then-ill_texts c = λ counts counts2. most_ill _ _ _ c.if-text-gt-LIMIT.false c.if-text2-gt-LIMIT.false c.if-other.false _ _ (c.bounds_of-a.ensures counts) (c.bounds_of-b.ensures counts2) c.if-a-b.false c.if-a-b-2.false _ (c.ill_texts.ensures counts _) c.if-ill_texts.true

pub returns : goal.returns
returns c = λ counts counts2. most_good _ _ _ c.if-text-gt-LIMIT.false c.if-text2-gt-LIMIT.false c.if-other.false _ _ (c.bounds_of-a.ensures counts) (c.bounds_of-b.ensures counts2) c.if-a-b.false c.if-a-b-2.false _ (c.ill_texts.ensures counts _) c.if-ill_texts.false
