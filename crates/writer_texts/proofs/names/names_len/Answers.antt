-- `writer_texts::names_len` meets its contract: the sum of the lengths of the names, and three commas.
use mathlib.Core.Path.{◌≡◌}
use lib.ListN.{length}
use Rattle.writer_texts.proofs.TextLaws.{names-long}
use borrow.Author.Rules.{rules}
use native.Mathlib.Omega.{arith}
use Rattle.writer_texts.proofs.names.names_len.Goals as goal

pub returns : goal.returns
returns c = let l : length c.args.names ≡ 4 = search rules in omega (arith, names-long c.args.marks.pipe c.args.marks.line c.args.text.now c.args.names l, c.name_len-s.ensures, c.name_len-w.ensures, c.name_len-n.ensures, c.name_len-e.ensures, c.sat_add.ensures, c.sat_add-2.ensures, c.sat_add-3.ensures, c.sat_add-4.ensures)
