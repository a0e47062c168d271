-- `output::put_decimal` meets its contract: a turn writes the last of the digits that are left, and the first is written after the loop.
use mathlib.Core.Path.{refl}
use Rattle.output.proofs.DecimalLaws.{before-o, at-inside, back_turn, back_finish}
use native.Mathlib.Omega.{arith}
use Rattle.output.proofs.decimal.put_decimal.Goals as goal

pub overflow_sub-o : goal.overflow_sub-o
overflow_sub-o c = before-o c.loop-rest.invariant c.loop-rest-test.true

pub bounds-out-o : goal.bounds-out-o
bounds-out-o c = omega (arith, before-o c.loop-rest.invariant c.loop-rest-test.true, c.loop-rest.invariant.room)

pub loop-rest-preserved : goal.loop-rest-preserved
loop-rest-preserved c = back_turn c.loop-rest.invariant c.loop-rest-test.true _ refl

pub bounds-out-at : goal.bounds-out-at
bounds-out-at c = at-inside c.loop-rest.invariant c.loop-rest-test.false

pub returns : goal.returns
returns c = back_finish c.loop-rest.invariant c.loop-rest-test.false _ refl _ (omega (arith, c.decimal_len.ensures))
