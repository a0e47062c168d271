-- `writer_texts::put_clean_bytes` meets its contract: a turn takes one byte off what is left to write.
use lib.ListN.{drop}
use Rattle.lin_spec.specs.Writer.{clean}
use Rattle.output.proofs.Laws.{Left}
use Rattle.writer_texts.proofs.texts.put_clean_bytes.Given as goal

abbrev pub invariant-loop-b : goal.invariant-loop-b
invariant-loop-b l = Left l.out l.o (clean l.marks.pipe l.marks.line (drop l.b-index l.s)) l.initial.out l.at (clean l.marks.pipe l.marks.line l.s)
