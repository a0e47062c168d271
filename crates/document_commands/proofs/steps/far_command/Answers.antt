-- `document_commands::far_command` meets its contract: the pipes that were found say which step it is.
use Rattle.lin_spec.proofs.Cursor.{step_none, step_one, step_two, step_after}
use Rattle.document_commands.proofs.StepLaws.{token-at, no_token}
use native.Mathlib.Omega.{arith}
use Rattle.document_commands.proofs.steps.far_command.Goals as goal

pub returns-then-text-p : goal.returns-then-text-p
returns-then-text-p c = no_token _ _ _ (step_none _ _ _ c.next_pipe-p.ensures c.if-text-p.true)

pub returns-then-text-q : goal.returns-then-text-q
returns-then-text-q c = no_token _ _ _ (step_one _ _ _ c.next_pipe-p.ensures c.if-text-p.false _ c.next_pipe-q.ensures c.if-text-q.true)

pub command_at-k-requires : goal.command_at-k-requires
command_at-k-requires c = (step_after _ _ _ c.next_pipe-p.ensures c.if-text-p.false, omega (arith, c.if-text-p.false))

pub overflow_sub-part : goal.overflow_sub-part
overflow_sub-part c = step_after _ _ _ c.next_pipe-q.ensures c.if-text-q.false

pub returns : goal.returns
returns c = token-at _ _ _ _ _ (step_two _ _ _ c.next_pipe-p.ensures c.if-text-p.false _ c.next_pipe-q.ensures c.if-text-q.false) _ c.command_at-k.ensures
