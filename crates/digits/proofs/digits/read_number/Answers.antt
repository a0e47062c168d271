-- `digits::read_number` meets its contract: a turn takes one digit off what is left to count.
use mathlib.Core.Path.{refl, sym, ◌∙◌}
use Rattle.digits.proofs.DigitLaws.{count_turn, number_empty, number-bad, number_is, number-over}
use Rattle.digits.proofs.digits.read_number.Goals as goal

pub returns-then-t-eq0 : goal.returns-then-t-eq0
returns-then-t-eq0 c = number_empty _ _ _ c.after_plus-t.ensures c.if-t-eq0.true

pub returns-then-not-is_digit : goal.returns-then-not-is_digit
returns-then-not-is_digit c = number-bad _ _ _ c.after_plus-t.ensures _ _ _ c.loop-b.invariant c.loop-b-test.true (sym c.is_digit.ensures ∙ c.if-not-is_digit.true)

pub loop-b-preserved : goal.loop-b-preserved
loop-b-preserved c = count_turn _ _ _ _ c.loop-b.invariant c.loop-b-test.true (sym c.is_digit.ensures ∙ c.if-not-is_digit.false) _ c.with_digit-n.ensures

pub returns-then-n-top : goal.returns-then-n-top
returns-then-n-top c = number_is _ _ _ c.after_plus-t.ensures c.if-t-eq0.false _ _ _ refl c.loop-b.invariant c.loop-b-test.false c.if-n-top.true

pub returns : goal.returns
returns c = number-over _ _ _ c.after_plus-t.ensures c.if-t-eq0.false _ _ _ refl c.loop-b.invariant c.loop-b-test.false c.if-n-top.false
