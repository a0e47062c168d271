-- `file_reader::read_found` meets its contract: 2 over the bytes looked at, then 3, then the board.
use mathlib.Core.Path.{refl, ap, ◌∙◌}
use Rattle.file_reader.specs.Steps.{read_of}
use Rattle.file_reader.proofs.StepLaws.{found-ill, found-by}
use Rattle.file_sections.proofs.SectionLaws.{inside-long, inside-within}
use Rattle.file_reader.proofs.steps.read_found.Goals as goal

pub returns-in-Err : goal.returns-in-Err
returns-in-Err c =
    ap (λ x. read_of x c.args.rows.now c.args.cards.now) c.refused.ensures
    ∙ found-ill c.args.text.now c.args.cursor.at c.args.number c.args.section c.args.rows.now c.args.cards.now c.args.cursor c.args.next _ c.check_utf8.ensures _ c.in-Err.is _ refl

pub slice_bounds-board_at-end : goal.slice_bounds-board_at-end
slice_bounds-board_at-end c = inside-long _ _ c.requires.1

pub board_at-requires : goal.board_at-requires
board_at-requires c = inside-within _ _ c.requires.1

pub returns-in-Ok : goal.returns-in-Ok
returns-in-Ok c =
    found-by c.args.text.now c.args.cursor.at c.args.number c.args.section c.args.rows.now c.args.cards.now c.args.cursor c.args.next _ c.check_utf8.ensures c.in_default.is _ _ _ c.board_at.ensures _ c.in-Ok.is _ refl

pub returns-in-Err-board_at : goal.returns-in-Err-board_at
returns-in-Err-board_at c =
    ap (λ x. read_of x c.board_at.new.rows c.board_at.new.cards) c.refused-in-Err-board_at.ensures
    ∙ found-by c.args.text.now c.args.cursor.at c.args.number c.args.section c.args.rows.now c.args.cards.now c.args.cursor c.args.next _ c.check_utf8.ensures c.in_default.is _ _ _ c.board_at.ensures _ c.in-Err-board_at.is _ refl
