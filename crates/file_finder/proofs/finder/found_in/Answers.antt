-- `file_finder::finder::found_in` meets its contract.
use Rattle.file_finder.proofs.FinderLaws.{names-fit, found_some, found-other}
use Rattle.file_finder.proofs.finder.found_in.Goals as goal

pub any_same-requires : goal.any_same-requires
any_same-requires c = (c.requires.0, names-fit c.args.text.now c.args.name.now c.args.p c.if-not-p.false _ c.names_at-names.ensures _ c.requires.2, c.requires.1.short)

pub returns-then-any_same : goal.returns-then-any_same
returns-then-any_same c = let e = c.any_same.ensures in (found_some c.args.text.now c.args.name.now c.args.p c.if-not-p.false _ c.names_at-names.ensures _ e.0 c.if-any_same.true, e.1, e.2)

pub returns : goal.returns
returns c = let e = c.any_same.ensures in (found-other c.args.text.now c.args.name.now c.args.p c.if-not-p.false _ c.names_at-names.ensures _ e.0 c.if-any_same.false, e.1, e.2)
