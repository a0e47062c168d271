-- `cards::letters::read_card` meets its contract: by the length, then by what each lookup answers. (01: Board, pc)
use Rattle.std.specs.Prelude.{Some}
use native.Mathlib.Omega.{arith}
use mathlib.Core.Path.{◌≡◌}
use lib.ListN.{get_or}
use Rattle.lin_spec.specs.Cards.{suit_of, rank_of}
use Rattle.lin_spec.proofs.Cards.{under, suit_under, rank_under}
use Rattle.cards.proofs.LetterLaws.{none-by, some-by, not-two, card_no_suit, card_no_rank, card-is}
use Rattle.cards.proofs.letters.read_card.Goals as goal

pub returns-then-s-ne2 : goal.returns-then-s-ne2
returns-then-s-ne2 c = not-two _ c.if-s-ne2.true

pub returns-in_default : goal.returns-in_default
returns-in_default c = card_no_suit _ c.if-s-ne2.false (none-by _ _ c.suit_of.ensures c.in_default.is)

pub returns-in_default-rank_of : goal.returns-in_default-rank_of
returns-in_default-rank_of c =
    let suit_is : suit_of (get_or c.args.s.now 0 0) ≡ Some c.in-Some.suit = some-by _ _ _ c.suit_of.ensures c.in-Some.is in
    card_no_rank _ c.if-s-ne2.false _ (suit_is) (none-by _ _ c.rank_of.ensures c.in_default-rank_of.is)

pub overflow_mul-result : goal.overflow_mul-result
overflow_mul-result c =
    let suit_is : suit_of (get_or c.args.s.now 0 0) ≡ Some c.in-Some.suit = some-by _ _ _ c.suit_of.ensures c.in-Some.is in
    let u = under _ _ _ (suit_under _) (suit_is) in omega arith

pub overflow_add-result : goal.overflow_add-result
overflow_add-result c =
    let suit_is : suit_of (get_or c.args.s.now 0 0) ≡ Some c.in-Some.suit = some-by _ _ _ c.suit_of.ensures c.in-Some.is in
    let rank_is : rank_of (get_or c.args.s.now 1 0) ≡ Some c.in-Some-rank_of.rank = some-by _ _ _ c.rank_of.ensures c.in-Some-rank_of.is in
    let u = under _ _ _ (suit_under _) (suit_is) in
    let r = under _ _ _ (rank_under _) (rank_is) in
    omega arith

pub returns : goal.returns
returns c =
    let suit_is : suit_of (get_or c.args.s.now 0 0) ≡ Some c.in-Some.suit = some-by _ _ _ c.suit_of.ensures c.in-Some.is in
    let rank_is : rank_of (get_or c.args.s.now 1 0) ≡ Some c.in-Some-rank_of.rank = some-by _ _ _ c.rank_of.ensures c.in-Some-rank_of.is in
    card-is _ c.if-s-ne2.false _ (suit_is) _ (rank_is)
