-- `accents::marks::next_in` meets its contract. The loop's invariant: no mark of the class is passed.
use native.Mathlib.Omega.{arith}
use mathlib.Core.Path.{◌≡◌}
use lib.ListN.{length}
use Rattle.lin_spec.proofs.Base.{split}
use Rattle.accents.proofs.MarkLaws.{none_passed, next_here, next-on, next-end}
use Rattle.accents.proofs.marks.next_in.Goals as goal

pub loop-i-init : goal.loop-i-init
loop-i-init c = none_passed _ _ _

pub returns-then-n-k : goal.returns-then-n-k
returns-then-n-k c = next_here _ c.args.s.now _ _ c.loop-i.invariant _ c.class_of-n.ensures c.if-n-k.true

pub loop-i-preserved : goal.loop-i-preserved
loop-i-preserved c = next-on _ c.args.s.now _ _ c.loop-i.invariant _ c.class_of-n.ensures c.loop-i-test.true c.if-n-k.false

pub returns : goal.returns
returns c =
    split (length c.args.s.now) c.args.from
    (λ h. let e : c.max.result ≡ c.args.from = omega arith in rw e (next-end _ c.args.s.now _ _ (none_passed _ _ _) (omega arith)))
    (λ h. let e : c.max.result ≡ c.loop-i.i = omega arith in rw e (next-end _ c.args.s.now _ _ c.loop-i.invariant c.loop-i-test.false))
