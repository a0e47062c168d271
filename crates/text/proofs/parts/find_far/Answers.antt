-- `text::parts::find_far` meets its contract. The loop's invariant: the first c from `i` on is the first from `from` on.
use mathlib.Core.Path.{sym, ◌∙◌}
use Rattle.lin_spec.proofs.Cursor.{find-end, find-here, find-next}
use Rattle.text.proofs.parts.find_far.Goals as goal

pub returns-then-s-i : goal.returns-then-s-i
returns-then-s-i c = sym (find-here _ _ _ c.loop-i-test.true c.if-s-i.true) ∙ c.loop-i.invariant

pub loop-i-preserved : goal.loop-i-preserved
loop-i-preserved c = find-next _ _ _ c.loop-i-test.true c.if-s-i.false ∙ c.loop-i.invariant

pub returns : goal.returns
returns c = sym (find-end _ _ _ c.loop-i-test.false) ∙ c.loop-i.invariant
