-- `document::trailing` meets its contract: a part that reaches the end.
use native.Mathlib.Omega.{arith}
use mathlib.Core.Path.{◌∙◌}
use Rattle.lin_spec.proofs.Records.{part-rest}
use Rattle.document.proofs.tokens.trailing.Goals as goal

pub returns : goal.returns
returns c = c.part.ensures ∙ part-rest _ _ _ (omega arith)
