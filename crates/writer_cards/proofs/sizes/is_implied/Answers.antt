-- `writer_cards::sizes::is_implied` meets its contract: each answer by the tests that led there.
use borrow.Author.Tests.{not-true, not-false}
use Rattle.writer_cards.proofs.EastLaws.{three_sums, implied-few, implied-none, implied-rest}
use Rattle.writer_cards.proofs.sizes.is_implied.Goals as goal

pub returns-then-not-s-w : goal.returns-then-not-s-w
returns-then-not-s-w c = let p = c.requires in implied-few _ _ (three_sums _ _ _ _ p.1 p.2 p.3) (not-true _ c.if-not-s-w.true-raw)

pub returns-then-e-eq0 : goal.returns-then-e-eq0
returns-then-e-eq0 c = let p = c.requires in implied-none _ _ (three_sums _ _ _ _ p.1 p.2 p.3) (not-false _ c.if-not-s-w.false-raw) _ p.4 c.if-e-eq0.true

pub returns : goal.returns
returns c = let p = c.requires in implied-rest _ _ (three_sums _ _ _ _ p.1 p.2 p.3) (not-false _ c.if-not-s-w.false-raw) _ p.4 c.if-e-eq0.false _ c.is_rest.ensures
