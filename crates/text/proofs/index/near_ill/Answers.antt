-- `text::near_ill` meets its contract: the two ends tell.
use native.Mathlib.Omega.{arith}
use Rattle.lin_spec.proofs.Utf8.{longest-within}
use Rattle.text.proofs.IndexLaws.{near_by}
use Rattle.text.proofs.index.near_ill.Goals as goal

pub tail_before-requires : goal.tail_before-requires
tail_before-requires c = omega (arith, c.requires.0, longest-within c.args.text.now)

pub tail_before-requires-2 : goal.tail_before-requires-2
tail_before-requires-2 c = omega (arith, c.requires.0, longest-within c.args.text.now)

pub returns : goal.returns
returns c = near_by c.args.text.now c.args.x.start c.args.x.len c.args.first c.requires.0 c.requires.1 _ _ c.tail_before.ensures c.tail_before-2.ensures
