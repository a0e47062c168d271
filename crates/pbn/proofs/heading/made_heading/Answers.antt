-- `pbn::made_heading` meets its contract: field by field.
use mathlib.Core.Path.{refl}
use Rattle.pbn.specs.Made.{made_heading}
use Rattle.pbn.proofs.heading.made_heading.Goals as goal

pub returns : goal.returns
unfolding made_heading
returns c = rw (c.dealer_by-dealer.ensures, c.between-title.ensures, c.between-room_board.ensures, c.between-board_header.ensures, c.claim_from-claim.ensures) refl
