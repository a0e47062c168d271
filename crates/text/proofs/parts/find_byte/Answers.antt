-- `text::find_byte` meets its contract: the first c is one of four bytes, or is looked for after them.
use native.Mathlib.Omega.{arith}
use mathlib.Core.Path.{◌∙◌}
use Rattle.text.proofs.FindLaws.{found_first, found-second, found_third, found_fourth, past-four}
use Rattle.text.proofs.parts.find_byte.Goals as goal

pub returns-then-s-from-2 : goal.returns-then-s-from-2
returns-then-s-from-2 c = found_first _ _ _ (omega arith) c.if-s-from-2.true

pub returns-then-s-from-3 : goal.returns-then-s-from-3
returns-then-s-from-3 c = found-second _ _ _ (omega arith) c.if-s-from-2.false c.if-s-from-3.true

pub returns-then-s-from-4 : goal.returns-then-s-from-4
returns-then-s-from-4 c = found_third _ _ _ (omega arith) c.if-s-from-2.false c.if-s-from-3.false c.if-s-from-4.true

pub returns-then-s-from-5 : goal.returns-then-s-from-5
returns-then-s-from-5 c = found_fourth _ _ _ (omega arith) c.if-s-from-2.false c.if-s-from-3.false c.if-s-from-4.false c.if-s-from-5.true

pub returns : goal.returns
returns c = c.find_far-2.ensures ∙ past-four _ _ _ (omega arith) c.if-s-from-2.false c.if-s-from-3.false c.if-s-from-4.false c.if-s-from-5.false
