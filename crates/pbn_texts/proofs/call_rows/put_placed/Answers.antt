-- `pbn_texts::put_placed` meets its contract: nothing, or the row of the call.
use native.Mathlib.Omega.{arith}
use Rattle.pbn_texts.proofs.RowLaws.{row_dropped, row-after, row_kept}
use Rattle.pbn_texts.proofs.call_rows.put_placed.Goals as goal

pub returns-then-not-is_kept : goal.returns-then-not-is_kept
returns-then-not-is_kept c = row_dropped c.args.text.now c.args.notes.now c.args.c c.args.p.text _ c.is_kept.ensures c.if-not-is_kept.true-raw c.requires.0

pub overflow_cast-note : goal.overflow_cast-note
overflow_cast-note c = omega (arith, row-after c.args.text.now c.args.notes.now c.args.c c.args.p.text _ c.is_kept.ensures c.if-not-is_kept.false-raw c.requires.1 _ c.pbn_bid_len-bid.ensures.0 _ c.pbn_note_len-note.ensures, c.requires.1)

pub put_kept_row-row-requires : goal.put_kept_row-row-requires
put_kept_row-row-requires c = rw (row_kept c.args.text.now c.args.notes.now c.args.c c.args.p.text _ c.is_kept.ensures c.if-not-is_kept.false-raw c.requires.1 _ c.pbn_bid_len-bid.ensures.0 _ c.pbn_note_len-note.ensures) c.requires.0

pub overflow_add-result-2 : goal.overflow_add-result-2
overflow_add-result-2 c = omega (arith, row-after c.args.text.now c.args.notes.now c.args.c c.args.p.text _ c.is_kept.ensures c.if-not-is_kept.false-raw c.requires.1 _ c.pbn_bid_len-bid.ensures.0 _ c.pbn_note_len-note.ensures, c.requires.1)

pub returns : goal.returns
returns c = (rw (row_kept c.args.text.now c.args.notes.now c.args.c c.args.p.text _ c.is_kept.ensures c.if-not-is_kept.false-raw c.requires.1 _ c.pbn_bid_len-bid.ensures.0 _ c.pbn_note_len-note.ensures) at c.put_kept_row-row.ensures, row-after c.args.text.now c.args.notes.now c.args.c c.args.p.text _ c.is_kept.ensures c.if-not-is_kept.false-raw c.requires.1 _ c.pbn_bid_len-bid.ensures.0 _ c.pbn_note_len-note.ensures)
