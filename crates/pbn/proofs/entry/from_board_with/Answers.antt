-- `pbn::from_board_with` meets its contract: its answer by the verdict of the checks.
use Rattle.lin_spec.proofs.Checks.{handed}
use mathlib.Core.Path.{◌∙◌}
use Rattle.lin_spec.specs.Pbn.{pbn}
use Rattle.pbn.proofs.StoreLaws.{convert-refused, convert-passed, convert_may}
use Rattle.pbn.proofs.entry.from_board_with.Goals as goal

pub convert_checked-requires : goal.convert_checked-requires
convert_checked-requires c = let a = c.args in
    convert_may a.other a.marks.pipe a.marks.line (pbn a.text.now a.board a.calls.now a.plays.now a.notes.now) a.out.now a.rows.now a.cards.now _ c.check_record.ensures c.in_ok-check_record.was

pub returns : goal.returns
returns c = c.convert_checked.ensures ∙ convert-passed c.args.other c.args.marks.pipe c.args.marks.line (pbn c.args.text.now c.args.board c.args.calls.now c.args.plays.now c.args.notes.now) c.args.out.now c.args.rows.now c.args.cards.now _ c.check_record.ensures c.in_ok-check_record.was

pub returns-in_err-check_record : goal.returns-in_err-check_record
returns-in_err-check_record c = let a = c.args in
    convert-refused a.other a.marks.pipe a.marks.line (pbn a.text.now a.board a.calls.now a.plays.now a.notes.now) a.out.now a.rows.now a.cards.now _ c.check_record.ensures _ c.in_err-check_record.was _ (handed _ _ c.from_residual.ensures)
