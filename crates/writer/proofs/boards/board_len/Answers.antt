-- `writer::board_len` meets its contract: the sum of the lengths of the calls and of all else.
use Prim.Native.Nat.{ℕ}
use mathlib.Core.Path.{ap, sym, ◌∙◌}
use Rattle.lin_spec.specs.Refusals.{sat}
use Rattle.board_lent.specs.Heads.{board_of}
use Rattle.output.proofs.Laws.{sat-sum}
use Rattle.writer.proofs.PieceLaws.{written-long}
use Rattle.writer.proofs.boards.board_len.Goals as goal

pub returns : goal.returns
returns c = let a = c.args in
    λ counts z.
    sat-sum _ _ (c.others_len-a.ensures counts z) (c.calls_len.ensures a.marks.pipe a.marks.line) c.sat_add.ensures
    ∙ ap (λ (n : ℕ). sat n) (sym (written-long a.marks a.text.now (board_of a.head counts) a.rows.now a.cards.now))
