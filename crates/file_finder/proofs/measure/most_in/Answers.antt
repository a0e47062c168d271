-- `file_finder::measure::most_in` meets its contract.
use Rattle.file_finder.proofs.MeasureLaws.{most_some}
use Rattle.file_finder.proofs.measure.most_in.Goals as goal

pub returns : goal.returns
returns c = most_some c.args.text.now c.args.p c.if-not-p.false _ c.names_at.ensures _ c.most_of.ensures
