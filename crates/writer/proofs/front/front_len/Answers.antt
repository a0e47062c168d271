-- `writer::front_len` meets its contract: the sum of the lengths of the two pieces.
use Prim.Native.Nat.{ℕ}
use mathlib.Core.Path.{ap, sym, ◌∙◌}
use Rattle.lin_spec.specs.Refusals.{sat}
use Rattle.board_lent.specs.Heads.{board_of}
use Rattle.output.proofs.Laws.{sat-sum}
use Rattle.writer.proofs.PieceLaws.{front_long}
use Rattle.writer.proofs.front.front_len.Goals as goal

pub returns : goal.returns
returns c = let a = c.args in
    λ counts z.
    sat-sum _ _ c.heading_len.ensures (c.dealing_len.ensures a.head counts z) c.sat_add.ensures
    ∙ ap (λ (n : ℕ). sat n) (sym (front_long a.marks.pipe a.marks.line a.text.now (board_of a.head counts)))
