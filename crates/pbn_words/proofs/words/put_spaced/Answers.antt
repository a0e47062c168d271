-- `pbn_words::put_spaced` meets its contract: nothing, the word, or a space and the word.
use mathlib.Core.Path.{sym}
use borrow.Author.Tests.{not-false}
use Rattle.output.proofs.Laws.{start, step, finish}
use Rattle.pbn_words.proofs.WordLaws.{spaced_none, spaced_later, room_as, put_as, put_none}
use Rattle.pbn_words.proofs.words.put_spaced.Goals as goal

pub returns-then-w-eq0 : goal.returns-then-w-eq0
returns-then-w-eq0 c = put_as (sym (spaced_none c.args.later c.args.w.now c.if-w-eq0.true)) (put_none _ _)

pub returns : goal.returns
returns c = put_as (sym (spaced_later c.args.later c.args.w.now (not-false _ c.if-not-later.false-raw) c.if-w-eq0.false)) (finish (step (step (start (room_as (spaced_later c.args.later c.args.w.now (not-false _ c.if-not-later.false-raw) c.if-w-eq0.false) c.requires)) c.put-a.ensures) c.put_all-2.ensures))
