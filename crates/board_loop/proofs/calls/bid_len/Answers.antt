-- `board_loop::bid_len` meets its contract: a turn takes a mark off the end.
use native.Mathlib.Omega.{arith}
use lib.ListN.{length}
use mathlib.Core.Path.{ap, ◌∙◌}
use Rattle.board_loop.proofs.CallLaws.{mark_off, mark-none, nothing-left}
use Rattle.board_loop.proofs.calls.bid_len.Goals as goal

pub loop-last-preserved : goal.loop-last-preserved
loop-last-preserved c = let i = c.loop-last.invariant in
    let e = c.in-Some.ensures.cases in
    (mark_off _ _ _ e.0 c.if-last-ne33.false ∙ i.0, omega (arith, e.1))

pub returns-then-last-ne33 : goal.returns-then-last-ne33
returns-then-last-ne33 c = let i = c.loop-last.invariant in
    (ap length (mark-none _ _ _ c.in-Some.ensures.cases.0 c.if-last-ne33.true ∙ i.0), i.1)

pub returns-in_default : goal.returns-in_default
returns-in_default c = let i = c.loop-last.invariant in (ap length (nothing-left _ c.in_default.ensures.cases ∙ i.0), i.1)
