-- `auction::unknown_bid` meets its contract: a turn looks at a row.
use Rattle.std.specs.Prelude.{not}
use mathlib.Core.Path.{ap, sym}
use Rattle.auction.proofs.SearchLaws.{rows-are, search_end, search_found, search_on}
use Rattle.auction.proofs.check.unknown_bid.Goals as goal

pub returns-then-is_none : goal.returns-then-is_none
returns-then-is_none c = rw (← rows-are _ _ c.as_chunks.ensures.front) (search_found c.args.text.now _ _ c.loop-i.invariant c.loop-i-test.true _ c.bid_of.ensures _ (sym c.is_none.ensures) (ap not c.if-is_none.true))

pub loop-i-preserved : goal.loop-i-preserved
loop-i-preserved c = search_on c.args.text.now _ _ c.loop-i.invariant c.loop-i-test.true _ c.bid_of.ensures _ (sym c.is_none.ensures) (ap not c.if-is_none.false)

pub returns : goal.returns
returns c = rw (← rows-are _ _ c.as_chunks.ensures.front) (search_end c.args.text.now _ _ c.loop-i.invariant c.loop-i-test.false)
