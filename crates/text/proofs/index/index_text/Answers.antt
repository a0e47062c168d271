-- `text::index_text` meets its contract. The loop's invariant: the blocks before k have their words, and a run begins at `from`. The measure is what is left of
-- the text.
use native.Mathlib.Omega.{arith}
use mathlib.Core.Path.{refl, ◌∙◌}
use Rattle.text.proofs.IndexLaws.{made_none, made-next, made_all, run-within}
use Rattle.text.proofs.index.index_text.Goals as goal

pub loop-from-init : goal.loop-from-init
loop-from-init c = (made_none _ _, refl)

pub overflow_add-p : goal.overflow_add-p
overflow_add-p c = let w = run-within c.args.text.now _ _ _ c.loop-from.invariant.0 c.loop-from-test.true _ c.well_formed_len.ensures in
    omega arith

pub put_blocks-k-requires : goal.put_blocks-k-requires
put_blocks-k-requires c = let w = run-within c.args.text.now _ _ _ c.loop-from.invariant.0 c.loop-from-test.true _ c.well_formed_len.ensures in
    omega arith

pub overflow_add-from : goal.overflow_add-from
overflow_add-from c = let w = run-within c.args.text.now _ _ _ c.loop-from.invariant.0 c.loop-from-test.true _ c.well_formed_len.ensures in
    omega arith

pub loop-from-preserved : goal.loop-from-preserved
loop-from-preserved c = let f = c.put_blocks-k.ensures in
    (made-next c.args.text.now _ _ _ c.loop-from.invariant.0 c.loop-from-test.true _ c.well_formed_len.ensures _ _ f.0 f.1, f.0.long ∙ c.loop-from.invariant.1)

pub returns : goal.returns
returns c = made_all c.args.text.now _ _ _ c.loop-from.invariant.0 c.loop-from-test.false
