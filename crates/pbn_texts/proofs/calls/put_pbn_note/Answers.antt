-- `pbn_texts::put_pbn_note` meets its contract: by the flag.
use Rattle.output.proofs.Laws.{start, finish}
use Rattle.pbn_texts.proofs.CallLaws.{note-none}
use Rattle.pbn_texts.proofs.calls.put_pbn_note.Goals as goal

pub returns-then-c-eq0 : goal.returns-then-c-eq0
returns-then-c-eq0 c = rw (note-none c.args.c c.args.text.now c.args.notes.now c.if-c-eq0.true) (finish (start (rw (note-none c.args.c c.args.text.now c.args.notes.now c.if-c-eq0.true) at c.requires)))
