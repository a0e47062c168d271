-- `cards::card_number` meets its contract: the numbers of the letters say whether they are a suit and a rank. (01: Board, pc)
use native.Mathlib.Omega.{arith}
use mathlib.Core.Bool.{◌&&◌}
use lib.Dec.{leb, ltb}
use Prim.Native.Nat.{◌<◌, ◌≤◌}
use borrow.Author.Tests.{leb-true, ltb-true}
use borrow.Author.Rules.{rules}
use Rattle.lin_spec.proofs.Base.{and_left, and_right}
use Rattle.cards.proofs.LetterLaws.{card-two}
use Rattle.cards.proofs.letters.card_number.Goals as goal

pub letter_number-u-requires : goal.letter_number-u-requires
letter_number-u-requires c = c.requires

pub letter_number-r-requires : goal.letter_number-r-requires
letter_number-r-requires c = c.requires

pub overflow_mul-result : goal.overflow_mul-result
overflow_mul-result c =
    let small : (c.letter_number-u.result < 4) × (4 ≤ c.letter_number-r.result) × (c.letter_number-r.result < 17) = let u = c.letter_number-u.result in
    let r = c.letter_number-r.result in
    let b = and_right (ltb u 4) (leb 4 r && ltb r 17) c.if-u-r.true in
    (ltb-true u 4 (and_left (ltb u 4) (leb 4 r && ltb r 17) c.if-u-r.true), leb-true 4 r (and_left (leb 4 r) (ltb r 17) b), ltb-true r 17 (and_right (leb 4 r) (ltb r 17) b)) in
    omega (arith, (small).0)

pub overflow_sub-result : goal.overflow_sub-result
overflow_sub-result c =
    let small : (c.letter_number-u.result < 4) × (4 ≤ c.letter_number-r.result) × (c.letter_number-r.result < 17) = let u = c.letter_number-u.result in
    let r = c.letter_number-r.result in
    let b = and_right (ltb u 4) (leb 4 r && ltb r 17) c.if-u-r.true in
    (ltb-true u 4 (and_left (ltb u 4) (leb 4 r && ltb r 17) c.if-u-r.true), leb-true 4 r (and_left (leb 4 r) (ltb r 17) b), ltb-true r 17 (and_right (leb 4 r) (ltb r 17) b)) in
    (small).1

pub overflow_add-result : goal.overflow_add-result
overflow_add-result c =
    let small : (c.letter_number-u.result < 4) × (4 ≤ c.letter_number-r.result) × (c.letter_number-r.result < 17) = let u = c.letter_number-u.result in
    let r = c.letter_number-r.result in
    let b = and_right (ltb u 4) (leb 4 r && ltb r 17) c.if-u-r.true in
    (ltb-true u 4 (and_left (ltb u 4) (leb 4 r && ltb r 17) c.if-u-r.true), leb-true 4 r (and_left (leb 4 r) (ltb r 17) b), ltb-true r 17 (and_right (leb 4 r) (ltb r 17) b)) in
    omega (arith, (small).0, (small).1, (small).2)

pub returns-then-u-r : goal.returns-then-u-r
returns-then-u-r c = λ _. card-two _ _ _ _ (search rules) (search rules) c.letter_number-u.ensures c.letter_number-r.ensures c.if-u-r.true

pub returns : goal.returns
returns c = λ h. absurd (omega (arith, h))
