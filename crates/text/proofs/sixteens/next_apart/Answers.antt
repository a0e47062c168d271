-- `text::next_apart` meets its contract: a turn passes two bytes that are the same.
use native.Mathlib.Omega.{arith}
use mathlib.Core.Path.{◌≡◌, ◌∙◌}
use Rattle.lin_spec.proofs.Base.{split}
use Rattle.text.proofs.ApartLaws.{differ, same, over}
use Rattle.text.proofs.sixteens.next_apart.Goals as goal

pub returns-then-a-i : goal.returns-then-a-i
returns-then-a-i c = differ c.args.a.now c.args.b.now _ (omega arith) (omega arith) c.if-a-i.true ∙ c.loop-i.invariant

pub loop-i-preserved : goal.loop-i-preserved
loop-i-preserved c = same c.args.a.now c.args.b.now _ (omega arith) (omega arith) c.if-a-i.false ∙ c.loop-i.invariant

pub returns : goal.returns
returns c =
    let over-at = over c.args.a.now c.args.b.now c.lesser-m.result in
    split c.lesser-m.result c.sixteens_same-start.result
    (λ h. let e : c.max.result ≡ c.sixteens_same-start.result = omega arith in e ∙ over-at _ c.lesser-m.ensures (omega arith) ∙ c.sixteens_same-start.ensures)
    (λ h. let e : c.max.result ≡ c.loop-i.i = omega arith in e ∙ over-at _ c.lesser-m.ensures c.loop-i-test.false ∙ c.loop-i.invariant)
