-- `file_reader::read_board` meets its contract: each answer by the step that was found.
use mathlib.Core.Path.{◌∙◌, ap}
use Rattle.file_reader.specs.Steps.{read_of}
use Rattle.file_reader.proofs.StepLaws.{step_long, step_inside, step_found, step_ended}
use Rattle.file_reader.proofs.steps.read_board.Goals as goal

pub returns-then-text-gt-LIMIT : goal.returns-then-text-gt-LIMIT
returns-then-text-gt-LIMIT c =
    ap (λ x. read_of x c.args.rows.now c.args.cards.now) c.refused.ensures
    ∙ step_long c.args.text.now c.args.cursor c.args.rows.now c.args.cards.now c.if-text-gt-LIMIT.true

pub returns-in_default : goal.returns-in_default
returns-in_default c = step_ended c.args.text.now c.args.cursor c.args.rows.now c.args.cards.now c.if-text-gt-LIMIT.false _ c.next_board-step.ensures c.in_default.is _ c.none_left.ensures

pub read_found-requires : goal.read_found-requires
read_found-requires c = step_inside c.args.text.now c.args.cursor c.args.rows.now c.args.cards.now c.if-text-gt-LIMIT.false _ c.next_board-step.ensures _ _ c.in-Some.is

pub returns : goal.returns
returns c = step_found c.args.text.now c.args.cursor c.args.rows.now c.args.cards.now c.if-text-gt-LIMIT.false _ c.next_board-step.ensures _ _ c.in-Some.is c.read_found.ensures
