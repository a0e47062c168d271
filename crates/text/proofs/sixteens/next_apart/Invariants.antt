-- `text::next_apart` meets its contract: a turn passes two bytes that are the same.
use mathlib.Core.Path.{◌≡◌}
use Rattle.text.specs.Apart.{next_apart}
use Rattle.text.proofs.sixteens.next_apart.Given as goal

abbrev pub invariant-loop-i : goal.invariant-loop-i
invariant-loop-i l = next_apart l.a l.b l.i ≡ next_apart l.a l.b l.from
