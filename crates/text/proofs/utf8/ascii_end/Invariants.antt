-- `text::utf8::ascii_end` meets its contract. The loop's invariant: there are whole characters from `from` up to i.
use Rattle.text.specs.Utf8.{Past}
use Rattle.text.proofs.utf8.ascii_end.Given as goal

abbrev pub invariant-loop-i : goal.invariant-loop-i
invariant-loop-i l = Past l.s l.from l.i
