-- `writer::put_mc` meets its contract: nothing, or one put.
use Rattle.output.proofs.Laws.{start, finish}
use Rattle.writer.proofs.PieceLaws.{claimed_is}
use Rattle.writer.proofs.back.put_mc.Goals as goal

pub put_claimed-requires : goal.put_claimed-requires
put_claimed-requires c = rw (c.in-Some.is, claimed_is) at c.requires

pub returns-in-None : goal.returns-in-None
returns-in-None c = rw c.in-None.is (finish (start (rw c.in-None.is at c.requires)))

pub returns-in-Some : goal.returns-in-Some
returns-in-Some c = rw (c.in-Some.is, claimed_is) c.put_claimed.ensures
