-- `text::utf8::char_len` meets its contract. The loop's invariant: the first k bytes are those of a character of n bytes so far, whose next byte is to be
-- from low to high.
use native.Mathlib.Omega.{arith}
use Rattle.text.proofs.Utf8Laws.{seen_nothing, seen_first, seen_short, seen_out, seen_next}
use Rattle.text.proofs.utf8.char_len.Goals as goal

pub returns-then-t-eq0 : goal.returns-then-t-eq0
returns-then-t-eq0 c = seen_nothing _ c.if-t-eq0.true

pub returns-then-t-n : goal.returns-then-t-n
returns-then-t-n c = seen_short _ _ c.if-t-eq0.false c.width-n.ensures c.if-t-n.true

pub returns-then-not-in_range : goal.returns-then-not-in_range
returns-then-not-in_range c = let s = seen_first _ _ _ _ c.if-t-eq0.false c.width-n.ensures c.lowest.ensures c.highest.ensures in
    seen_out _ _ _ _ _ s (omega arith) c.if-t-n.false _ c.in_range.ensures c.if-not-in_range.true

pub returns-then-n-eq2 : goal.returns-then-n-eq2
returns-then-n-eq2 c = let s = seen_first _ _ _ _ c.if-t-eq0.false c.width-n.ensures c.lowest.ensures c.highest.ensures in
    (seen_next _ _ _ _ _ s (omega arith) c.if-t-n.false _ c.in_range.ensures c.if-not-in_range.false).done (omega arith)

pub loop-k-init : goal.loop-k-init
loop-k-init c = seen_first _ _ _ _ c.if-t-eq0.false c.width-n.ensures c.lowest-low.ensures c.highest-high.ensures

pub returns-then-not-in_range-2 : goal.returns-then-not-in_range-2
returns-then-not-in_range-2 c = seen_out _ _ _ _ _ c.loop-k.invariant c.loop-k-test.true c.if-t-n.false _ c.in_range-in-loop-k.ensures c.if-not-in_range-2.true

pub loop-k-preserved : goal.loop-k-preserved
loop-k-preserved c = seen_next _ _ _ _ _ c.loop-k.invariant c.loop-k-test.true c.if-t-n.false _ c.in_range-in-loop-k.ensures c.if-not-in_range-2.false

pub returns : goal.returns
returns c = c.loop-k.invariant.done c.loop-k-test.false
