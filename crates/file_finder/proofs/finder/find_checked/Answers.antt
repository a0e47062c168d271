-- `file_finder::finder::find_checked` meets its contract: 7 by what is told of the room, and else the count.
use Prim.Native.Nat.{ℕ}
use Rattle.lin_spec.proofs.Checks.{handed}
use Rattle.lin_spec.specs.Refusals.{Answer}
use Rattle.file_finder.specs.Walk.{FindsChecked}
use native.Mathlib.Omega.{arith}
use mathlib.Core.Path.{refl, ◌∙◌, sym, ap, subst}
use Rattle.std.specs.Prelude.{Ok, Err}
use Rattle.file_finder.proofs.FinderLaws.{first_ready, sought_small, room_told, boards-fit, checked-short, enough, front_fits, checked-count}
use Rattle.file_finder.proofs.finder.find_checked.Goals as goal

pub room_for-requires : goal.room_for-requires
room_for-requires c = let p = c.requires in
    (c.mappings-table.ensures, first_ready _ p.0 _ c.holds_qx-lines.ensures _ refl, p.2, sought_small _ _ c.sought_of-sought.ensures p.3 p.1)

pub returns-in_err-room_for : goal.returns-in_err-room_for
returns-in_err-room_for c = let p = c.requires in
    let k = c.sought_of-sought.ensures in
    let t = room_told _ _ _ _ (Err _) c.room_for.ensures c.in_err-room_for.was in
    let e = handed _ _ c.from_residual.ensures ∙ ap Err t.0 in
    subst (λ (x : Answer ℕ). FindsChecked c.args.text.now c.args.name.now c.args.work.now x c.args.work.now) (sym e)
    (checked-short c.args.text.now c.args.name.now _ _ k p.2 p.0 (sought_small _ _ k p.3 p.1) _ refl t.1)

pub lay_sought-requires : goal.lay_sought-requires
lay_sought-requires c = let k = c.sought_of-sought.ensures in
    let t = room_told _ _ _ _ (Ok tt) c.room_for.ensures c.in_ok-room_for.was in
    (k, front_fits c.args.text.now _ _ _ k t _ c.mappings-table.ensures c.requires.1)

pub find_from-requires : goal.find_from-requires
find_from-requires c = let p = c.requires in
    let k = c.sought_of-sought.ensures in
    let l = c.lay_sought.ensures in
    let t = room_told _ _ _ _ (Ok tt) c.room_for.ensures c.in_ok-room_for.was in
    (record { copied = c.mappings-table.ensures; well = p.3; laid = l.0 }, first_ready _ p.0 _ c.holds_qx-lines.ensures _ refl, boards-fit _ _ _ p.2 (omega (arith, l.1, enough c.args.text.now c.args.name.now c.args.work.now _ k t)))

pub returns : goal.returns
returns c = let k = c.sought_of-sought.ensures in
    let f = c.find_from.ensures in
    let t = room_told _ _ _ _ (Ok tt) c.room_for.ensures c.in_ok-room_for.was in
    checked-count c.args.text.now c.args.name.now _ _ k t _ f.0 _ (f.1 ∙ c.lay_sought.ensures.1)
