-- `writer_cards::tricks_len` meets its contract: six bytes for each card and five for each trick.
use native.Mathlib.Omega.{arith}
use Rattle.writer_cards.proofs.TrickLaws.{tricks-long}
use Rattle.writer_cards.proofs.tricks.tricks_len.Goals as goal

pub returns-then-n-gt3074457345618258602 : goal.returns-then-n-gt3074457345618258602
returns-then-n-gt3074457345618258602 c = omega (arith, tricks-long c.args.cards.now)

pub returns : goal.returns
returns c = omega (arith, tricks-long c.args.cards.now, c.sat_add.ensures)
