-- `writer_cards::hands::hand_text_len` meets its contract: by the test, none or one for each suit and card.
use native.Mathlib.Omega.{arith}
use mathlib.Core.Path.{ap, sym}
use lib.ListN.{length}
use Rattle.writer_cards.proofs.HandLaws.{suits_long, hand-none, hand-some}
use Rattle.writer_cards.proofs.hands.hand_text_len.Goals as goal

pub returns-then-n-eq0 : goal.returns-then-n-eq0
returns-then-n-eq0 c = (λ h l e. sym (ap length (hand-none h _ e c.if-n-eq0.true)), omega arith)

pub returns : goal.returns
returns c = (λ h l e. omega (arith, ap length (hand-some h _ e c.if-n-eq0.false), suits_long h l, e), omega arith)
