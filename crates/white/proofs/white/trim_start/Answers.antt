-- `white::white::trim_start` meets its contract: the white characters before i are passed. The measure is what is left. (01: Records)
use native.Mathlib.Omega.{arith}
use Rattle.white.proofs.WhiteLaws.{start-done, start-room, start-next, start-end}
use Rattle.white.proofs.white.trim_start.Goals as goal

pub returns-then-w-eq0 : goal.returns-then-w-eq0
returns-then-w-eq0 c = start-done _ _ _ c.loop-i.invariant c.white_front-w.ensures c.if-w-eq0.true

pub overflow_add-i : goal.overflow_add-i
overflow_add-i c = omega (arith, start-room _ _ _ c.loop-i.invariant c.white_front-w.ensures)

pub loop-i-preserved : goal.loop-i-preserved
loop-i-preserved c = start-next _ _ _ c.loop-i.invariant c.white_front-w.ensures c.if-w-eq0.false

pub returns : goal.returns
returns c = start-end _ _ c.loop-i.invariant c.loop-i-test.false
