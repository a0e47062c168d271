use Rattle.std.proofs.Common.{arith, ◌≡◌, ◌∙◌, ap}
use Rattle.std.specs.Prelude.{Ok, Some}
use Rattle.file_reader.proofs.StepLaws.{step_later}
use Rattle.lin_example.proofs.copying.copy_from.Goals as goal

pub loop-read-smaller : goal.loop-read-smaller
loop-read-smaller g c =
    let read : c.in-Ok-Some.field-0 ≡ Some c.in-Ok-Some.read = rw c.in-Ok-Some.is at c.in-Ok-Some.field-0-is in
    let f = step_later _ _ _ _ _ _ c.read_board-step.result c.read_board-step.ensures _ (c.in-Ok-Some.is ∙ ap Ok read) in
    omega (arith, f.0, f.1)
