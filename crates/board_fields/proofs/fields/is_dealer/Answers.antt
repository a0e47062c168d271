-- `board_fields::is_dealer` meets its contract: the first byte, if there is one.
use Rattle.board_fields.proofs.FieldLaws.{dealer-none, dealer-here}
use Rattle.board_fields.proofs.fields.is_dealer.Goals as goal

pub returns-then-s-eq0 : goal.returns-then-s-eq0
returns-then-s-eq0 c = dealer-none _ c.if-s-eq0.true

pub returns : goal.returns
returns c = dealer-here _ c.if-s-eq0.false
