-- `writer_texts::clean_part` meets its contract: the bytes before this one are cleaned.
use mathlib.Core.Path.{◌≡◌}
use mathlib.Core.List.{◌++◌, map}
use lib.ListN.{take, drop}
use Rattle.writer_texts.specs.Texts.{clean_byte}
use Rattle.writer_texts.proofs.texts.clean_part.Given as goal

abbrev pub invariant-loop-b : goal.invariant-loop-b
invariant-loop-b l = l.b-items ≡ map (clean_byte l.marks.pipe l.marks.line) (take l.b-index l.initial.b-items) ++ drop l.b-index l.initial.b-items
