-- `output::decimal_len` meets its contract: a turn takes the last digit off and counts it.
use Rattle.lin_spec.proofs.Decimal.{length-short, length-long}
use native.Mathlib.Omega.{arith}
use Rattle.output.proofs.decimal.decimal_len.Goals as goal

pub loop-rest-preserved : goal.loop-rest-preserved
loop-rest-preserved c = omega (arith, length-long c.loop-rest.rest c.loop-rest-test.true)

pub returns : goal.returns
returns c = omega (arith, length-short c.loop-rest.rest c.loop-rest-test.false)
