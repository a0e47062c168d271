-- `writer::heading_len` meets its contract: the sum of the lengths of the pieces.
use Prim.Native.Nat.{ℕ}
use mathlib.Core.Path.{ap, sym, ◌∙◌}
use Rattle.lin_spec.specs.Refusals.{sat}
use Rattle.writer.proofs.PieceLaws.{heading-long, heading-sum}
use Rattle.writer.proofs.heading.heading_len.Goals as goal

pub returns : goal.returns
returns c = heading-sum _ _ _ _ c.text_len.ensures c.sat_add-a.ensures c.names_len.ensures c.sat_add-b.ensures c.text_len-2.ensures c.sat_add-c.ensures (c.header_len.ensures c.args.marks.pipe c.args.marks.line) c.sat_add.ensures
    ∙ ap (λ (n : ℕ). sat n) (sym (heading-long c.args.marks.pipe c.args.marks.line c.args.text.now c.args.head))
