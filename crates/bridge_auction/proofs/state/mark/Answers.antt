-- `bridge_auction::state::mark` meets its contract: by whether the place is free.
use native.Mathlib.Omega.{arith}
use Rattle.bridge_auction.proofs.NameLaws.{mark-kept, mark_free}
use Rattle.bridge_auction.proofs.state.mark.Goals as goal

pub returns-then-n-k-gt0 : goal.returns-then-n-k-gt0
returns-then-n-k-gt0 c = mark-kept _ _ _ (omega (arith, c.if-n-k-gt0.true))

pub returns : goal.returns
returns c = mark_free _ _ _ (omega (arith, c.if-n-k-gt0.false))
