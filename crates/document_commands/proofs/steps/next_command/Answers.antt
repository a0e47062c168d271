-- `document_commands::next_command` meets its contract: a command of two bytes and a value up to the next pipe, or what `far_command` says.
use native.Mathlib.Omega.{arith}
use borrow.Author.Tests.{not-false}
use Rattle.document_commands.proofs.PlainLaws.{pair-none, pair_least, pair-token}
use Rattle.document_commands.proofs.steps.next_command.Goals as goal

pub overflow_add-v : goal.overflow_add-v
overflow_add-v c = omega (arith, (c.is_pair.ensures (not-false _ c.if-not-is_pair.false-raw)).within)

pub returns-then-text-q : goal.returns-then-text-q
returns-then-text-q c = pair-none _ _ _ _ c.after_line-a.ensures (c.is_pair.ensures (not-false _ c.if-not-is_pair.false-raw)) c.next_pipe-q.ensures c.if-text-q.true

pub bounds-text-a : goal.bounds-text-a
bounds-text-a c = omega (arith, (c.is_pair.ensures (not-false _ c.if-not-is_pair.false-raw)).within)

pub overflow_add-a : goal.overflow_add-a
overflow_add-a c = omega (arith, (c.is_pair.ensures (not-false _ c.if-not-is_pair.false-raw)).within)

pub bounds-text-a-2 : goal.bounds-text-a-2
bounds-text-a-2 c = omega (arith, (c.is_pair.ensures (not-false _ c.if-not-is_pair.false-raw)).within)

pub overflow_sub-value : goal.overflow_sub-value
overflow_sub-value c = pair_least _ _ _ _ c.after_line-a.ensures (c.is_pair.ensures (not-false _ c.if-not-is_pair.false-raw)) c.next_pipe-q.ensures c.if-text-q.false

pub returns : goal.returns
returns c = pair-token _ _ _ _ c.after_line-a.ensures (c.is_pair.ensures (not-false _ c.if-not-is_pair.false-raw)) c.next_pipe-q.ensures c.if-text-q.false _ c.pair_of-k.ensures
