use native.Mathlib.Omega.{arith}
use borrow.Author.Tests.{le-leb, lt-leb}
use Rattle.text.proofs.Utf8Laws.{width_is}
use Rattle.text.proofs.utf8.width.Goals as goal

pub returns-then-a-le127 : goal.returns-then-a-le127
returns-then-a-le127 c = width_is c.args.a _ (omega arith) (simp (le-leb _ _ c.if-a-le127.true))

pub returns-then-a : goal.returns-then-a
returns-then-a c = width_is c.args.a _ (omega arith) (simp (lt-leb _ _ c.if-a-le127.false, c.if-a.true))

pub returns-then-a-le223 : goal.returns-then-a-le223
returns-then-a-le223 c = width_is c.args.a _ (omega arith) (simp (lt-leb _ _ c.if-a-le127.false, c.if-a.false, le-leb _ _ c.if-a-le223.true))

pub returns-then-a-le239 : goal.returns-then-a-le239
returns-then-a-le239 c = width_is c.args.a _ (omega arith) (simp (lt-leb _ _ c.if-a-le127.false, c.if-a.false, lt-leb _ _ c.if-a-le223.false, le-leb _ _ c.if-a-le239.true))

pub returns : goal.returns
returns c = width_is c.args.a _ (omega arith) (simp (lt-leb _ _ c.if-a-le127.false, c.if-a.false, lt-leb _ _ c.if-a-le223.false, lt-leb _ _ c.if-a-le239.false))
