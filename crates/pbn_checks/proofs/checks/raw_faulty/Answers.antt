-- `pbn_checks::raw_faulty` meets its contract: the annotation where there is one.
use mathlib.Core.Path.{◌∙◌}
use Rattle.pbn_checks.proofs.CheckLaws.{raw-none, raw-some}
use Rattle.pbn_checks.proofs.checks.raw_faulty.Goals as goal

pub returns-then-c-eq0 : goal.returns-then-c-eq0
returns-then-c-eq0 c = raw-none _ c.args.c c.if-c-eq0.true

pub returns : goal.returns
returns c = c.faulty.ensures ∙ raw-some _ c.args.c c.if-c-eq0.false
