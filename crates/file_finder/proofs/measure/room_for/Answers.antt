-- `file_finder::measure::room_for` meets its contract: what any name of the text fits is enough, and else the names are measured.
use native.Mathlib.Omega.{arith}
use Rattle.file_finder.proofs.MeasureLaws.{file_most, sum-small}
use Rattle.file_finder.proofs.measure.room_for.Goals as goal

pub returns-then-places-text : goal.returns-then-places-text
returns-then-places-text c = omega (arith, file_most c.args.text.now c.requires.2, c.if-places-text.true)

pub overflow_add-need : goal.overflow_add-need
overflow_add-need c = omega (arith, c.most_from.ensures, sum-small c.args.text.now c.args.places c.requires.2 c.requires.1.short c.requires.3)
