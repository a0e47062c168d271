-- `document::Cursor::next` meets its contract: the pipes that were found say which step it is.
use mathlib.Core.Path.{sym}
use Rattle.lin_spec.proofs.Cursor.{step_none, step_one, step_two, step_after}
use Rattle.document.proofs.tokens.Cursor.next.Goals as goal

pub returns-then-text-p : goal.returns-then-text-p
returns-then-text-p c = sym (step_none _ _ _ c.next_pipe-p.ensures c.if-text-p.true)

pub returns-then-text-q : goal.returns-then-text-q
returns-then-text-q c = sym (step_one _ _ _ c.next_pipe-p.ensures c.if-text-p.false _ c.next_pipe-q.ensures c.if-text-q.true)

pub overflow_sub-command : goal.overflow_sub-command
overflow_sub-command c = step_after _ _ _ c.next_pipe-p.ensures c.if-text-p.false

pub overflow_sub-value : goal.overflow_sub-value
overflow_sub-value c = step_after _ _ _ c.next_pipe-q.ensures c.if-text-q.false

pub returns : goal.returns
returns c = sym (step_two _ _ _ c.next_pipe-p.ensures c.if-text-p.false _ c.next_pipe-q.ensures c.if-text-q.false)
