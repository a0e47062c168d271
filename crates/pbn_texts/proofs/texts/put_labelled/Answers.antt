-- `pbn_texts::put_labelled` meets its contract: by the label.
use mathlib.Core.Path.{sym, ◌∙◌}
use Rattle.output.proofs.Laws.{start, finish}
use Rattle.pbn_texts.proofs.TextLaws.{labelled_no}
use Rattle.pbn_texts.proofs.texts.put_labelled.Goals as goal

pub returns : goal.returns
returns c = rw (labelled_no c.args.text.now c.args.l (sym c.is_some.ensures ∙ c.if-is_some.false)) (finish (start (rw (labelled_no c.args.text.now c.args.l (sym c.is_some.ensures ∙ c.if-is_some.false)) at c.requires)))
