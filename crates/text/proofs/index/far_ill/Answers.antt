-- `text::index::far_ill` meets its contract: the bytes are looked at, or the next ill-formed place and the bytes at the two ends decide.
use mathlib.Core.Path.{sym, ◌∙◌}
use native.Mathlib.Omega.{arith}
use lib.ListN.{length}
use Rattle.text.proofs.IndexLaws.{tail_ill, far_by, looked_up}
use Rattle.text.proofs.index.far_ill.Goals as goal

pub returns-then-tail_at : goal.returns-then-tail_at
returns-then-tail_at c = let q = looked_up c.args.start c.args.end (length c.args.text.now) (length c.args.next.now) c.if-len-text.false in
    tail_ill c.args.text.now c.args.start c.args.end (omega arith) q.1 (sym c.tail_at.ensures ∙ c.if-tail_at.true)

pub returns : goal.returns
returns c = let q = looked_up c.args.start c.args.end (length c.args.text.now) (length c.args.next.now) c.if-len-text.false in
    far_by c.args.text.now c.args.start c.args.end (omega arith) q.1 (sym c.tail_at.ensures ∙ c.if-tail_at.false) _ c.next_ill-ill.ensures _ c.tail_at-2.ensures
