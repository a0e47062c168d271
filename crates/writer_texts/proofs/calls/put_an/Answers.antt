-- `writer_texts::put_an` meets its contract: by the flag.
use Rattle.output.proofs.Laws.{start, finish}
use Rattle.writer_texts.proofs.CallLaws.{annotation-none, annotation-some}
use Rattle.writer_texts.proofs.calls.put_an.Goals as goal

pub returns-then-c-eq0 : goal.returns-then-c-eq0
returns-then-c-eq0 c = rw (annotation-none c.args.marks.pipe c.args.marks.line c.args.text.now c.args.c c.if-c-eq0.true) (finish (start (rw (annotation-none c.args.marks.pipe c.args.marks.line c.args.text.now c.args.c c.if-c-eq0.true) at c.requires)))

pub put_after-requires : goal.put_after-requires
put_after-requires c = rw (annotation-some c.args.marks.pipe c.args.marks.line c.args.text.now c.args.c c.if-c-eq0.false) at c.requires

pub returns : goal.returns
returns c = rw (annotation-some c.args.marks.pipe c.args.marks.line c.args.text.now c.args.c c.if-c-eq0.false) c.put_after.ensures
