-- `writer_texts::calls_len` meets its contract: a turn takes one call off what is left to count.
use native.Mathlib.Omega.{arith}
use mathlib.Core.Path.{sym, ap, ◌∙◌}
use mathlib.Core.List.{List}
use Prim.Native.Nat.{ℕ}
use lib.ListN.{length}
use Rattle.lin_spec.specs.Refusals.{sat}
use Rattle.writer_texts.proofs.CallLaws.{chunks-bytes, count-call, count_none}
use Rattle.writer_texts.proofs.calls.calls_len.Goals as goal

pub loop-row-preserved : goal.loop-row-preserved
loop-row-preserved c = (
  λ p q. count-call p q c.args.text.now _ _ _ _ (c.loop-row.invariant.0 p q) c.loop-row-test.true _ c.call_of.ensures _ _ (c.call_len.ensures p q) c.sat_add-n.ensures,
  omega (arith, c.sat_add-n.ensures),
)

pub returns : goal.returns
returns c = λ p q.
    count_none p q c.args.text.now _ _ _ _ (c.loop-row.invariant.0 p q) (omega arith) c.loop-row-test.false
    ∙ ap (λ (x : List ℕ). sat (length x)) (sym (chunks-bytes p q c.args.text.now c.args.rows.now _ c.as_chunks.ensures.front))
