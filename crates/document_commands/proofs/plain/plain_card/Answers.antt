-- `document_commands::plain_card` meets its contract: four bytes are tested, and two are a card.
use native.Mathlib.Omega.{arith}
use Rattle.document_commands.proofs.PlainLaws.{card-at}
use Rattle.document_commands.proofs.plain.plain_card.Goals as goal

pub returns-then-text-lt6 : goal.returns-then-text-lt6
returns-then-text-lt6 c = λ h. absurd (omega (arith, h))

pub returns-then-text-at : goal.returns-then-text-at
returns-then-text-at c = λ h. absurd (omega (arith, h))

pub card_number-requires : goal.card_number-requires
card_number-requires c = c.requires

pub returns-then-text-at-2 : goal.returns-then-text-at-2
returns-then-text-at-2 c = card-at _ _ (omega (arith, c.if-text-at.false, c.if-text-lt6.false)) c.if-text-at-2.true _ c.card_number.ensures

pub returns : goal.returns
returns c = λ h. absurd (omega (arith, h))
