-- `writer_cards::hands::put_repeated` meets its contract: none, one, or a part that is filled.
use native.Mathlib.Omega.{arith}
use lib.ListN.{length-replicate}
use Rattle.writer_cards.proofs.HandLaws.{repeat_put, repeat_none}
use Rattle.writer_cards.proofs.hands.put_repeated.Goals as goal

pub returns-then-n-eq0 : goal.returns-then-n-eq0
returns-then-n-eq0 c = repeat_none _ _ _ _ c.if-n-eq0.true

pub returns : goal.returns
returns c = let a = c.args in
    repeat_put a.out.now a.at a.n _ a.b _ (omega (arith, c.requires.room, length-replicate a.n a.b)) (omega arith) (c.fill.ensures.after (λ y h. h))
