-- `pbn_texts::put_pbn_call` meets its contract: nothing, or two puts.
use Rattle.output.proofs.Laws.{start, roomy, step, finish}
use Rattle.pbn_texts.proofs.CallLaws.{call_dropped, call-start}
use Rattle.pbn_texts.proofs.calls.put_pbn_call.Goals as goal

pub returns-then-not-is_kept : goal.returns-then-not-is_kept
returns-then-not-is_kept c = rw (call_dropped c.args.text.now c.args.notes.now c.args.c _ c.is_kept.ensures c.if-not-is_kept.true-raw) (finish (start (rw (call_dropped c.args.text.now c.args.notes.now c.args.c _ c.is_kept.ensures c.if-not-is_kept.true-raw) at c.requires.0)))

pub put_pbn_bid-a-requires : goal.put_pbn_bid-a-requires
put_pbn_bid-a-requires c = (roomy _ _ (call-start c.args.text.now c.args.notes.now c.args.c _ c.is_kept.ensures c.if-not-is_kept.false-raw c.requires.0), c.requires.1)

pub put_pbn_note-requires : goal.put_pbn_note-requires
put_pbn_note-requires c = roomy _ _ (step (call-start c.args.text.now c.args.notes.now c.args.c _ c.is_kept.ensures c.if-not-is_kept.false-raw c.requires.0) c.put_pbn_bid-a.ensures)

pub returns : goal.returns
returns c = finish (step (step (call-start c.args.text.now c.args.notes.now c.args.c _ c.is_kept.ensures c.if-not-is_kept.false-raw c.requires.0) c.put_pbn_bid-a.ensures) c.put_pbn_note.ensures)
