-- `pbn_texts::put_level` meets its contract: two puts.
use mathlib.Core.List.{◌∷◌, []}
use lib.ListN.{get_or}
use Rattle.lin_spec.specs.Base.{ascii}
use Rattle.lin_spec.specs.Decimal.{digit}
use Rattle.output.proofs.Laws.{start, step, finish}
use Rattle.pbn_texts.proofs.calls.put_level.Goals as goal

pub returns : goal.returns
returns c = finish (step (step {s = digit c.args.level ∷ []} {t = get_or (ascii "CDHSN") c.args.strain 0 ∷ []} (start c.requires.0) c.put-a.ensures) c.put.ensures)
