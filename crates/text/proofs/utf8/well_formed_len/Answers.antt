-- `text::utf8::well_formed_len` meets its contract. The loop's invariant: there are whole characters up to i. The measure is what is left of the length.
use Rattle.text.proofs.Utf8Laws.{past_end, char_none}
use Rattle.text.proofs.utf8.well_formed_len.Goals as goal

pub returns-then-n-eq0 : goal.returns-then-n-eq0
returns-then-n-eq0 c = char_none _ _ _ c.char_len-n.ensures c.loop-i.invariant c.if-n-eq0.true

pub returns : goal.returns
returns c = past_end _ _ c.loop-i.invariant c.loop-i-test.false
