-- `output::put_all` meets its contract: a turn takes one element off what is left to write.
use mathlib.Core.Path.{refl}
use Rattle.output.proofs.Laws.{finish, next_put, end_of}
use Rattle.output.proofs.put_all.Goals as goal

pub loop-j-preserved : goal.loop-j-preserved
loop-j-preserved g c = next_put _ _ _ _ c.loop-j-test.true c.index-s-j.is c.loop-j.invariant

pub returns : goal.returns
returns g c = record { next = refl; text = (finish (rw (end_of _ _ c.loop-j-test.false) at c.loop-j.invariant)).text }
