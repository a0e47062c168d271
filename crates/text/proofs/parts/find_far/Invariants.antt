-- `text::parts::find_far` meets its contract. The loop's invariant: the first c from `i` on is the first from `from` on.
use mathlib.Core.Path.{◌≡◌}
use Rattle.lin_spec.specs.Cursor.{find_from}
use Rattle.text.proofs.parts.find_far.Given as goal

abbrev pub invariant-loop-i : goal.invariant-loop-i
invariant-loop-i l = find_from l.c l.s l.i ≡ find_from l.c l.s l.from
