-- `pbn_texts::name_spans` meets its contract: each starts where the one before it ends.
use Rattle.std.specs.Prelude.{None}
use native.Mathlib.Omega.{arith}
use lib.ListN.{get_or}
use Rattle.pbn_texts.proofs.NameLaws.{name_most, names-placed}
use borrow.Author.Rules.{rules}
use Rattle.pbn_texts.proofs.names.name_spans.Goals as goal

pub overflow_cast-a : goal.overflow_cast-a
overflow_cast-a c = omega (arith, c.requires, c.one_len-a.ensures, name_most c.args.marks.pipe c.args.marks.line c.args.text.now (get_or c.args.names 0 None))

pub overflow_cast-b : goal.overflow_cast-b
overflow_cast-b c = omega (arith, c.requires, c.one_len-b.ensures, name_most c.args.marks.pipe c.args.marks.line c.args.text.now (get_or c.args.names 1 None))

pub overflow_cast-c : goal.overflow_cast-c
overflow_cast-c c = omega (arith, c.requires, c.one_len-c.ensures, name_most c.args.marks.pipe c.args.marks.line c.args.text.now (get_or c.args.names 2 None))

pub overflow_cast-d : goal.overflow_cast-d
overflow_cast-d c = omega (arith, c.requires, c.one_len-d.ensures, name_most c.args.marks.pipe c.args.marks.line c.args.text.now (get_or c.args.names 3 None))

pub overflow_add-north : goal.overflow_add-north
overflow_add-north c = omega (arith, c.requires, c.one_len-a.ensures, c.one_len-b.ensures, c.one_len-c.ensures, name_most c.args.marks.pipe c.args.marks.line c.args.text.now (get_or c.args.names 0 None), name_most c.args.marks.pipe c.args.marks.line c.args.text.now (get_or c.args.names 1 None), name_most c.args.marks.pipe c.args.marks.line c.args.text.now (get_or c.args.names 2 None), name_most c.args.marks.pipe c.args.marks.line c.args.text.now (get_or c.args.names 3 None))

pub overflow_add-east : goal.overflow_add-east
overflow_add-east c = omega (arith, c.requires, c.one_len-a.ensures, c.one_len-b.ensures, c.one_len-c.ensures, name_most c.args.marks.pipe c.args.marks.line c.args.text.now (get_or c.args.names 0 None), name_most c.args.marks.pipe c.args.marks.line c.args.text.now (get_or c.args.names 1 None), name_most c.args.marks.pipe c.args.marks.line c.args.text.now (get_or c.args.names 2 None), name_most c.args.marks.pipe c.args.marks.line c.args.text.now (get_or c.args.names 3 None))

pub overflow_add-east-2 : goal.overflow_add-east-2
overflow_add-east-2 c = omega (arith, c.requires, c.one_len-a.ensures, c.one_len-b.ensures, c.one_len-c.ensures, name_most c.args.marks.pipe c.args.marks.line c.args.text.now (get_or c.args.names 0 None), name_most c.args.marks.pipe c.args.marks.line c.args.text.now (get_or c.args.names 1 None), name_most c.args.marks.pipe c.args.marks.line c.args.text.now (get_or c.args.names 2 None), name_most c.args.marks.pipe c.args.marks.line c.args.text.now (get_or c.args.names 3 None))

pub returns : goal.returns
returns c = names-placed c.args.marks.pipe c.args.marks.line c.args.text.now c.args.names (search rules) _ _ _ _ c.one_len-a.ensures c.one_len-b.ensures c.one_len-c.ensures c.one_len-d.ensures
