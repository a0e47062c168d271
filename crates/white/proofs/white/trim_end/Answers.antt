-- `white::white::trim_end` meets its contract: the white characters from n on are passed. The measure is n. (01: Records)
use Rattle.white.proofs.WhiteLaws.{end-done, end-room, end-next, end-end}
use Rattle.white.proofs.white.trim_end.Goals as goal

pub returns-then-w-eq0 : goal.returns-then-w-eq0
returns-then-w-eq0 c = end-done _ _ _ c.loop-n.invariant c.white_back-w.ensures c.if-w-eq0.true

pub overflow_sub-n : goal.overflow_sub-n
overflow_sub-n c = end-room _ _ _ c.loop-n.invariant c.white_back-w.ensures

pub loop-n-preserved : goal.loop-n-preserved
loop-n-preserved c = end-next _ _ _ c.loop-n.invariant c.white_back-w.ensures c.if-w-eq0.false

pub returns : goal.returns
returns c = end-end _ _ c.loop-n.invariant c.loop-n-test.false
