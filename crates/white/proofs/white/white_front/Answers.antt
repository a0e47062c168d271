-- `white::white::white_front` meets its contract: a law for each answer, of the tests on the first three bytes; a byte below 80 hex begins no longer character. (01: Records)
use native.Mathlib.Omega.{arith}
use mathlib.Core.Path.{refl}
use Rattle.white.proofs.WhiteLaws.{front_by, first-white, none-white, second-white, third_white}
use Rattle.white.proofs.white.white_front.Goals as goal

pub returns-then-white1 : goal.returns-then-white1
returns-then-white1 c = first-white _ _ _ _ (front_by _ _ _ _ c.byte_at-a.ensures refl refl) _ c.white1.ensures c.if-white1.true

pub returns-then-a-lt128 : goal.returns-then-a-lt128
returns-then-a-lt128 c = none-white _ _ _ _ (front_by _ _ _ _ c.byte_at-a.ensures refl refl) _ c.white1.ensures c.if-white1.false (λ k. omega arith) (λ k. omega arith)

pub returns-then-white2 : goal.returns-then-white2
returns-then-white2 c = second-white _ _ _ _ (front_by _ _ _ _ c.byte_at-a.ensures c.byte_at-b.ensures refl) _ c.white1.ensures c.if-white1.false _ c.white2.ensures c.if-white2.true

pub returns-then-white3 : goal.returns-then-white3
returns-then-white3 c = third_white _ _ _ _ (front_by _ _ _ _ c.byte_at-a.ensures c.byte_at-b.ensures c.byte_at.ensures) _ c.white1.ensures c.if-white1.false _ c.white2.ensures c.if-white2.false _ c.white3.ensures _ c.if-white3.true

pub returns : goal.returns
returns c = third_white _ _ _ _ (front_by _ _ _ _ c.byte_at-a.ensures c.byte_at-b.ensures c.byte_at.ensures) _ c.white1.ensures c.if-white1.false _ c.white2.ensures c.if-white2.false _ c.white3.ensures _ c.if-white3.false
