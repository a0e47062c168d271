-- `bridge_auction::state::next_count` meets its contract: by whether there is one more.
use borrow.Author.Tests.{lt-ltb, le-ltb}
use Rattle.bridge_auction.proofs.state.next_count.Goals as goal

pub returns-then-n-lt255 : goal.returns-then-n-lt255
returns-then-n-lt255 c = simp (lt-ltb _ _ c.if-n-lt255.true)

pub returns : goal.returns
returns c = simp (le-ltb _ _ c.if-n-lt255.false)
