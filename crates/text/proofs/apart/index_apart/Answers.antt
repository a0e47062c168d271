-- `text::index_apart` meets its contract. The loop's invariant: the blocks before k have their words. The measure is what is left of the blocks.
use native.Mathlib.Omega.{arith}
use mathlib.Core.Path.{◌∙◌}
use Rattle.text.proofs.ApartLaws.{made-limit, made-next}
use Rattle.text.proofs.apart.index_apart.Goals as goal

pub put_blocks-k-requires : goal.put_blocks-k-requires
put_blocks-k-requires c = made-limit c.args.a.now c.args.b.now _ (omega (arith, c.loop-k-test.true, c.loop-k.invariant.1, c.requires.1)) c.requires.0 _ c.next_apart-p.ensures

pub loop-k-preserved : goal.loop-k-preserved
loop-k-preserved c = let a = c.args in
    let f = c.put_blocks-k.ensures.0 in
    (made-next a.a.now a.b.now _ _ _ _ _ c.loop-k.invariant.0 c.next_apart-p.ensures f, f.long ∙ c.loop-k.invariant.1)
