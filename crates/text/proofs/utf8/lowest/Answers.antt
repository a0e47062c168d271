use native.Mathlib.Omega.{arith}
use borrow.Author.Tests.{eq-eqb, ne_eqb}
use Rattle.text.proofs.Utf8Laws.{low_is}
use Rattle.text.proofs.utf8.lowest.Goals as goal

pub returns-then-a-eq224 : goal.returns-then-a-eq224
returns-then-a-eq224 c = low_is c.args.a _ (omega arith) (simp (eq-eqb _ _ c.if-a-eq224.true))

pub returns-then-a-eq240 : goal.returns-then-a-eq240
returns-then-a-eq240 c = low_is c.args.a _ (omega arith) (simp (ne_eqb _ _ c.if-a-eq224.false, eq-eqb _ _ c.if-a-eq240.true))

pub returns : goal.returns
returns c = low_is c.args.a _ (omega arith) (simp (ne_eqb _ _ c.if-a-eq224.false, ne_eqb _ _ c.if-a-eq240.false))
