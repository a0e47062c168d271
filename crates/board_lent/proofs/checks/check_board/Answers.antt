-- `board_lent::check_board` meets its contract: each verdict by the tests that led there.
use Rattle.board_lent.proofs.LentLaws.{check_long, check_other, check_number, check_past, check_ill, check_good}
use Rattle.board_lent.proofs.checks.check_board.Goals as goal

pub returns-then-text-gt-LIMIT : goal.returns-then-text-gt-LIMIT
returns-then-text-gt-LIMIT c = λ counts. check_long _ _ c.if-text-gt-LIMIT.true

pub returns-then-other : goal.returns-then-other
returns-then-other c = λ counts. check_other _ _ c.if-text-gt-LIMIT.false c.if-other.true

pub returns-then-found : goal.returns-then-found
returns-then-found c = λ counts. check_number _ _ c.if-text-gt-LIMIT.false c.if-other.false _ (c.bounds_of-found.ensures counts) c.if-found.true

pub returns-then-found-2 : goal.returns-then-found-2
returns-then-found-2 c = λ counts. check_past _ _ c.if-text-gt-LIMIT.false c.if-other.false _ (c.bounds_of-found.ensures counts) c.if-found.false c.if-found-2.true

pub returns-then-ill_texts : goal.returns-then-ill_texts
returns-then-ill_texts c = λ counts. check_ill _ _ c.if-text-gt-LIMIT.false c.if-other.false _ (c.bounds_of-found.ensures counts) c.if-found.false c.if-found-2.false _ (c.ill_texts.ensures counts _) c.if-ill_texts.true

pub returns : goal.returns
returns c = λ counts. check_good _ _ c.if-text-gt-LIMIT.false c.if-other.false _ (c.bounds_of-found.ensures counts) c.if-found.false c.if-found-2.false _ (c.ill_texts.ensures counts _) c.if-ill_texts.false
