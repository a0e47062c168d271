-- `writer_texts::put_clean_bytes` meets its contract: a turn takes one byte off what is left to write.
use Rattle.output.proofs.Laws.{finish}
use Rattle.writer_texts.proofs.TextLaws.{clean-inside, clean-turn, clean_end}
use Rattle.writer_texts.proofs.texts.put_clean_bytes.Goals as goal

pub bounds-out-o : goal.bounds-out-o
bounds-out-o c = clean-inside _ _ _ _ c.loop-b-test.true c.loop-b.invariant

pub loop-b-preserved : goal.loop-b-preserved
loop-b-preserved c = clean-turn _ _ _ _ c.loop-b-test.true c.loop-b.invariant _ c.clean_byte.ensures

pub returns : goal.returns
returns c = finish (rw (clean_end _ _ _ _ c.loop-b-test.false) at c.loop-b.invariant)
