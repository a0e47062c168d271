use native.Mathlib.Omega.{arith}
use borrow.Author.Tests.{eq-eqb, ne_eqb}
use Rattle.text.proofs.Utf8Laws.{high_is}
use Rattle.text.proofs.utf8.highest.Goals as goal

pub returns-then-a-eq237 : goal.returns-then-a-eq237
returns-then-a-eq237 c = high_is c.args.a _ (omega arith) (simp (eq-eqb _ _ c.if-a-eq237.true))

pub returns-then-a-eq244 : goal.returns-then-a-eq244
returns-then-a-eq244 c = high_is c.args.a _ (omega arith) (simp (ne_eqb _ _ c.if-a-eq237.false, eq-eqb _ _ c.if-a-eq244.true))

pub returns : goal.returns
returns c = high_is c.args.a _ (omega arith) (simp (ne_eqb _ _ c.if-a-eq237.false, ne_eqb _ _ c.if-a-eq244.false))
