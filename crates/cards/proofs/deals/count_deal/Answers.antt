-- `cards::deals::count_deal` meets its contract: each field begins where the one before ends, and the hands stand one after the other. (01: Board, md)
-- the deal after one hand, two and three
use native.Mathlib.Omega.{arith}
use mathlib.Core.Path.{refl}
use mathlib.Core.List.{◌++◌}
use Rattle.lin_spec.specs.Tokens.{cut}
use Rattle.lin_spec.specs.Cards.{read_hand}
use Rattle.lin_spec.proofs.Cards.{hand-length}
use Rattle.cards.specs.Letters.{table}
use Rattle.cards.specs.Deals.{field_at}
use Rattle.cards.proofs.DealLaws.{fields, Dealing, dealing_none, dealing_room, dealing_more, deal-done}
use Rattle.cards.proofs.deals.count_deal.Goals as goal

pub count_field-west-requires : goal.count_field-west-requires
unfolding table
count_field-west-requires c = (refl, omega arith, dealing_room _ _ 0 156 (dealing_none _ c.requires.0), omega arith, c.requires.1)

pub count_field-north-requires : goal.count_field-north-requires
unfolding table
count_field-north-requires c =
    let one : Dealing c.count_field-west.new.counts (read_hand (field_at c.args.s.now 0)) 1 156 = dealing_more _ _ 0 156 (dealing_none _ c.requires.0) _ _ c.count_field-west.ensures.hand (hand-length _) in
    (refl, omega arith, dealing_room _ _ 1 104 (one), c.count_field-west.ensures.within, c.requires.1)

pub count_field-east-requires : goal.count_field-east-requires
unfolding table
count_field-east-requires c =
    let one : Dealing c.count_field-west.new.counts (read_hand (field_at c.args.s.now 0)) 1 156 = dealing_more _ _ 0 156 (dealing_none _ c.requires.0) _ _ c.count_field-west.ensures.hand (hand-length _) in
    let two : Dealing c.count_field-north.new.counts (read_hand (field_at c.args.s.now 0) ++ read_hand (field_at c.args.s.now c.count_field-west.result)) 2 104 = dealing_more _ _ 1 104 (one) _ _ c.count_field-north.ensures.hand (hand-length _) in
    (refl, omega arith, dealing_room _ _ 2 52 (two), c.count_field-north.ensures.within, c.requires.1)

pub count_east-requires : goal.count_east-requires
unfolding table
count_east-requires c =
    let one : Dealing c.count_field-west.new.counts (read_hand (field_at c.args.s.now 0)) 1 156 = dealing_more _ _ 0 156 (dealing_none _ c.requires.0) _ _ c.count_field-west.ensures.hand (hand-length _) in
    let two : Dealing c.count_field-north.new.counts (read_hand (field_at c.args.s.now 0) ++ read_hand (field_at c.args.s.now c.count_field-west.result)) 2 104 = dealing_more _ _ 1 104 (one) _ _ c.count_field-north.ensures.hand (hand-length _) in
    let three : Dealing c.count_field-east.new.counts ((read_hand (field_at c.args.s.now 0) ++ read_hand (field_at c.args.s.now c.count_field-west.result)) ++ read_hand (field_at c.args.s.now c.count_field-north.result)) 3 52 = dealing_more _ _ 2 52 (two) _ _ c.count_field-east.ensures.hand (hand-length _) in
    (refl, dealing_room _ _ 3 0 (three), c.count_field-east.ensures.within, c.requires.1)

pub returns : goal.returns
returns c =
    let one : Dealing c.count_field-west.new.counts (read_hand (field_at c.args.s.now 0)) 1 156 = dealing_more _ _ 0 156 (dealing_none _ c.requires.0) _ _ c.count_field-west.ensures.hand (hand-length _) in
    let two : Dealing c.count_field-north.new.counts (read_hand (field_at c.args.s.now 0) ++ read_hand (field_at c.args.s.now c.count_field-west.result)) 2 104 = dealing_more _ _ 1 104 (one) _ _ c.count_field-north.ensures.hand (hand-length _) in
    let three : Dealing c.count_field-east.new.counts ((read_hand (field_at c.args.s.now 0) ++ read_hand (field_at c.args.s.now c.count_field-west.result)) ++ read_hand (field_at c.args.s.now c.count_field-north.result)) 3 52 = dealing_more _ _ 2 52 (two) _ _ c.count_field-east.ensures.hand (hand-length _) in
    let s = c.args.s.now in
    let v = fields (cut 0x2C s) _ _ _ c.count_field-west.ensures.rest c.count_field-north.ensures.rest c.count_field-east.ensures.rest in
    deal-done (cut 0x2C s) _ _ _ _ _ _ refl v.second v.third v.fourth (three) c.count_east.ensures
