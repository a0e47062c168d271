-- `board_loop::next_bid` meets its contract: a turn takes a token that is no mb off those that are still to be read.
use Rattle.board_loop.proofs.CallLaws.{from_end, from_mb, from-other}
use Rattle.document_commands.proofs.StepLaws.{commanded, spanned}
use mathlib.Core.Path.{◌∙◌, sym}
use Rattle.board_loop.proofs.calls.next_bid.Goals as goal

pub returns-then-k-eq-MB : goal.returns-then-k-eq-MB
returns-then-k-eq-MB c = let t = (spanned _ _ _ _ _ _ c.span_of-v.ensures (commanded _ _ _ _ c.next_command.ensures c.in-Some.is)) in (sym c.loop-k.invariant ∙ from_mb _ _ _ _ _ t c.if-k-eq-MB.true, t.value)

pub loop-k-preserved : goal.loop-k-preserved
loop-k-preserved c = from-other _ _ _ _ _ (commanded _ _ _ _ c.next_command.ensures c.in-Some.is) c.if-k-eq-MB.false ∙ c.loop-k.invariant

pub returns-in-None : goal.returns-in-None
returns-in-None c = sym c.loop-k.invariant ∙ from_end _ _ (commanded _ _ _ _ c.next_command.ensures c.in-None.is)
