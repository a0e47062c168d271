-- `text::utf8::ascii_end` meets its contract. The loop's invariant: there are whole characters from `from` up to i.
use Rattle.text.proofs.Utf8Laws.{past_next}
use Rattle.text.proofs.utf8.ascii_end.Goals as goal

pub loop-i-preserved : goal.loop-i-preserved
loop-i-preserved c = past_next _ _ _ c.loop-i.invariant c.loop-i-test.true c.if-s-i-gt127.false
