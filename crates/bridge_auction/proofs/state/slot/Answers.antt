-- `bridge_auction::state::slot` meets its contract: ten places, five for each side.
use native.Mathlib.Omega.{arith}
use Rattle.bridge_auction.specs.State.{slot}
use Rattle.bridge_auction.proofs.NameLaws.{five}
use Rattle.bridge_auction.proofs.state.slot.Goals as goal

pub returns : goal.returns
unfolding slot
returns c = (omega arith, omega (arith, five c.args.t))
