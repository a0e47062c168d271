-- `board_loop::next_note` meets its contract: a turn takes a token that is no mb off those that are still to be read.
use Rattle.board_loop.proofs.CallLaws.{after-end, after_mb, after-other}
use Rattle.document_commands.proofs.StepLaws.{commanded, spanned}
use mathlib.Core.Path.{◌∙◌, sym}
use Rattle.board_loop.proofs.calls.next_note.Goals as goal

pub returns-then-k-eq-MB : goal.returns-then-k-eq-MB
returns-then-k-eq-MB c = λ x. sym (c.loop-k.invariant x) ∙ after_mb _ _ _ _ _ (commanded _ _ _ _ c.next_command.ensures c.in-Some.is) c.if-k-eq-MB.true x _

pub loop-k-preserved : goal.loop-k-preserved
loop-k-preserved c = λ x. after-other _ _ _ _ _ (spanned _ _ _ _ _ _ c.span_of.ensures (commanded _ _ _ _ c.next_command.ensures c.in-Some.is)) c.if-k-eq-MB.false x _ _ c.on_present-annotation.ensures ∙ c.loop-k.invariant x

pub returns-in-None : goal.returns-in-None
returns-in-None c = λ x. sym (c.loop-k.invariant x) ∙ after-end _ _ x _ (commanded _ _ _ _ c.next_command.ensures c.in-None.is)
