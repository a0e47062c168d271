-- `pbn_texts::one_len` meets its contract: nothing, or the length of a name.
use mathlib.Core.Path.{ap, sym}
use lib.ListN.{length}
use Rattle.pbn_texts.proofs.NameLaws.{name_absent}
use Rattle.pbn_texts.proofs.names.one_len.Goals as goal

pub returns-in-None : goal.returns-in-None
returns-in-None c = sym (ap length (name_absent c.args.marks.pipe c.args.marks.line c.args.text.now c.args.x c.in-None.is))
