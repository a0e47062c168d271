-- `pbn_words::nag_of` meets its contract: a part of two bytes has one digit.
use Rattle.pbn_words.proofs.WordLaws.{nag_none, nag_mark}
use Rattle.pbn_words.proofs.words.nag_of.Goals as goal

pub returns-then-part-ne2 : goal.returns-then-part-ne2
returns-then-part-ne2 c = nag_none _ c.if-part-ne2.true

pub returns : goal.returns
returns c = nag_mark _ c.if-part-ne2.false
