-- `writer_texts::put_name_bytes` meets its contract: a turn takes one byte off what is left to write.
use Rattle.output.proofs.Laws.{roomy, step, finish}
use Rattle.writer_texts.proofs.TextLaws.{name_left, name_end}
use Rattle.writer_texts.proofs.names.put_name_bytes.Goals as goal

pub put_kept-o-requires : goal.put_kept-o-requires
put_kept-o-requires c = roomy _ _ (name_left _ _ _ _ c.loop-b-test.true _ c.clean_byte.ensures c.loop-b.invariant)

pub loop-b-preserved : goal.loop-b-preserved
loop-b-preserved c = step (name_left _ _ _ _ c.loop-b-test.true _ c.clean_byte.ensures c.loop-b.invariant) c.put_kept-o.ensures

pub returns : goal.returns
returns c = finish (rw (name_end _ _ _ _ c.loop-b-test.false) at c.loop-b.invariant)
