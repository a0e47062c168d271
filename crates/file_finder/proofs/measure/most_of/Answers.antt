-- `file_finder::measure::most_of` meets its contract: a turn passes a name.
use borrow.Author.Rules.{rules}
use native.Mathlib.Omega.{arith}
use mathlib.Core.Path.{ap, ◌∙◌}
use Rattle.lin_spec.specs.Records.{span, bytes_at}
use Rattle.accents.specs.Names.{places}
use Rattle.file_finder.proofs.MeasureLaws.{shown_small, greatest-end, greatest-next}
use Rattle.file_finder.proofs.measure.most_of.Goals as goal

pub mapped_len-requires : goal.mapped_len-requires
mapped_len-requires c = (c.requires.0, shown_small c.args.text.now _ _ c.shown.ensures c.requires.1)

pub loop-x-preserved : goal.loop-x-preserved
loop-x-preserved c = greatest-next (λ x. places (bytes_at c.args.text.now x)) (span 0 0) c.args.names _ _ c.loop-x.invariant (omega arith) _ _ (c.mapped_len.ensures ∙ ap places c.shown.ensures) (search rules)

pub returns : goal.returns
returns c = greatest-end (λ x. places (bytes_at c.args.text.now x)) (span 0 0) c.args.names _ c.loop-x.x-index c.loop-x.invariant (omega arith)
