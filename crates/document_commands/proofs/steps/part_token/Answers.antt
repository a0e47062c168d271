-- `document_commands::part_token` meets its contract: a token that tells no part by its bytes, or any by its command's number.
use native.Mathlib.Omega.{arith}
use Rattle.document_commands.proofs.StepLaws.{commanded}
use Rattle.document_commands.proofs.PlainLaws.{pair-none, passed-token}
use Rattle.document_commands.proofs.steps.part_token.Goals as goal

pub overflow_add-a : goal.overflow_add-a
overflow_add-a c = omega (arith, (c.is_unmarked.ensures c.if-is_unmarked.true).pair.within)

pub returns-then-text-q : goal.returns-then-text-q
returns-then-text-q c = pair-none _ _ _ _ c.after_line-a.ensures (c.is_unmarked.ensures c.if-is_unmarked.true).pair c.next_pipe-q.ensures c.if-text-q.true

pub returns-then-is_unmarked : goal.returns-then-is_unmarked
returns-then-is_unmarked c = passed-token _ _ _ _ c.after_line-a.ensures (c.is_unmarked.ensures c.if-is_unmarked.true) c.next_pipe-q.ensures c.if-text-q.false

pub returns-in-Some : goal.returns-in-Some
returns-in-Some c = record { value = _; token = commanded _ _ _ _ c.next_command.ensures c.in-Some.is }

pub returns-in-None : goal.returns-in-None
returns-in-None c = commanded _ _ _ _ c.next_command.ensures c.in-None.is
