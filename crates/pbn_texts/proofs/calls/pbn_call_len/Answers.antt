-- `pbn_texts::pbn_call_len` meets its contract: nothing, or the sum of both.
use native.Mathlib.Omega.{arith}
use mathlib.Core.Path.{ap}
use lib.ListN.{length}
use Rattle.pbn_texts.proofs.CallLaws.{call_dropped, call_long}
use Rattle.pbn_texts.proofs.calls.pbn_call_len.Goals as goal

pub returns-then-not-is_kept : goal.returns-then-not-is_kept
returns-then-not-is_kept c = omega (arith, ap length (call_dropped c.args.text.now c.args.notes.now c.args.c _ c.is_kept.ensures c.if-not-is_kept.true-raw))

pub returns : goal.returns
returns c = omega (arith, call_long c.args.text.now c.args.notes.now c.args.c c.is_kept.result c.is_kept.ensures c.if-not-is_kept.false-raw, c.pbn_bid_len.ensures.0, c.pbn_note_len.ensures, c.sat_add.ensures)
