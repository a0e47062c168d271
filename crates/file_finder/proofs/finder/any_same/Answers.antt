-- `file_finder::finder::any_same` meets its contract: a turn passes another name.
use native.Mathlib.Omega.{arith}
use mathlib.Core.Path.{◌∙◌}
use Rattle.lin_spec.specs.Records.{span}
use Rattle.file_finder.proofs.FinderLaws.{looking_on, seat_fits, seat_found, seat_next, seats_end}
use Rattle.file_finder.proofs.finder.any_same.Goals as goal

pub same_name-requires : goal.same_name-requires
same_name-requires c = seat_fits _ c.args.text.now _ _ _ _ _ _ c.loop-x.invariant c.requires.2 c.requires.1 (omega arith) (span 0 0) _ c.shown.ensures

pub returns-then-same_name : goal.returns-then-same_name
returns-then-same_name c = let i = c.loop-x.invariant in let e = c.same_name.ensures in (seat_found _ c.args.text.now _ _ _ _ _ _ i (omega arith) (span 0 0) _ c.shown.ensures _ e.0 c.if-same_name.true, looking_on _ _ _ _ _ i.looking e.1, e.2 ∙ i.long)

pub loop-x-preserved : goal.loop-x-preserved
loop-x-preserved c = let e = c.same_name.ensures in seat_next _ c.args.text.now _ _ _ _ _ _ c.loop-x.invariant (omega arith) (span 0 0) _ c.shown.ensures _ e.0 c.if-same_name.false _ e.1 e.2

pub returns : goal.returns
returns c = let i = c.loop-x.invariant in (seats_end _ c.args.text.now _ _ _ _ _ _ i (omega arith), i.looking, i.long)
