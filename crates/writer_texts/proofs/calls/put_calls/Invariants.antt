-- `writer_texts::put_calls` meets its contract: a turn takes one call off what is left to write.
use lib.ListN.{drop}
use Rattle.output.proofs.Laws.{Left}
use Rattle.writer_texts.proofs.CallLaws.{chunk_calls}
use Rattle.writer_texts.proofs.calls.put_calls.Given as goal

abbrev pub invariant-loop-row : goal.invariant-loop-row
invariant-loop-row l = Left l.out l.o (chunk_calls l.marks.pipe l.marks.line l.text (drop l.row-index l.row-items)) l.initial.out l.at (chunk_calls l.marks.pipe l.marks.line l.text l.row-items)
