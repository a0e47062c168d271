-- `writer::append_head` meets its contract: its answer by the verdict of the checks.
use Rattle.lin_spec.proofs.Checks.{handed}
use Rattle.lin_spec.specs.Refusals.{Answer}
use Prim.Native.Nat.{ℕ}
use mathlib.Core.Path.{◌∙◌, ap}
use Rattle.writer.proofs.Answers.{append-refused, append-passed, append-may}
use Rattle.board_lent.specs.Heads.{board_of}
use Rattle.writer.proofs.entries.append_head.Goals as goal

pub append_checked-requires : goal.append_checked-requires
append_checked-requires c = let p = append-may c.args.other c.args.marks c.args.text.now (board_of c.args.head c.args.counts.now) c.args.rows.now c.args.cards.now c.args.out.now c.args.used _ c.room.ensures _ (c.check_board.ensures c.args.counts.now) c.in_ok-check_board.was in (p.0, p.1, c.requires)

pub returns : goal.returns
returns c = c.append_checked.ensures ∙ append-passed c.args.other c.args.marks c.args.text.now (board_of c.args.head c.args.counts.now) c.args.rows.now c.args.cards.now c.args.out.now c.args.used _ c.room.ensures _ (c.check_board.ensures c.args.counts.now) c.in_ok-check_board.was

pub returns-in_err-check_board : goal.returns-in_err-check_board
returns-in_err-check_board c =
    ap (λ (a : Answer ℕ). record { answer = a; output = c.args.out.now }) (handed _ _ c.from_residual.ensures)
    ∙ append-refused c.args.other c.args.marks c.args.text.now (board_of c.args.head c.args.counts.now) c.args.rows.now c.args.cards.now c.args.out.now c.args.used _ c.room.ensures _ (c.check_board.ensures c.args.counts.now) _ c.in_err-check_board.was
