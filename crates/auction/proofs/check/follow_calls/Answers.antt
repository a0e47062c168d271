-- `auction::follow_calls` meets its contract: the state has followed the rows before this one.
use borrow.Author.Tests.{not-true, not-false}
use Rattle.auction.proofs.SearchLaws.{rows-are}
use Rattle.auction.proofs.FollowRowLaws.{rows-begun, rows_stopped, rows_stepped, rows_finished}
use Rattle.auction.proofs.check.follow_calls.Goals as goal

pub loop-i-init : goal.loop-i-init
loop-i-init c = rows-begun c.args.text.now _ _ _ c.begin_auction-state.ensures

pub returns-then-not-allows : goal.returns-then-not-allows
returns-then-not-allows c =
    rw (← rows-are _ _ c.as_chunks.ensures.front)
    (rows_stopped c.args.text.now _ c.args.dealer _ c.loop-i.invariant c.loop-i-test.true _ c.bid_of.ensures _ c.unwrap_or-call.ensures _ c.allows.ensures (not-true _ c.if-not-allows.true-raw))

pub loop-i-preserved : goal.loop-i-preserved
loop-i-preserved c =
    rows_stepped c.args.text.now _ c.args.dealer _ c.loop-i.invariant c.loop-i-test.true _ c.bid_of.ensures _ c.unwrap_or-call.ensures _ c.allows.ensures _ (not-false _ c.if-not-allows.false-raw) c.with_call-state.ensures

pub returns : goal.returns
returns c = rw (← rows-are _ _ c.as_chunks.ensures.front) (rows_finished c.args.text.now _ c.args.dealer _ c.loop-i.invariant c.loop-i-test.false _ c.outcome.ensures)
