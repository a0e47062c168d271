-- `pbn_words::equals_word` meets its contract: what stands between the two is read as a number.
use native.Mathlib.Omega.{arith}
use Rattle.digits.proofs.DigitLaws.{number_most}
use Rattle.pbn_words.proofs.WordLaws.{equals_short, equals_open, equals_note, equals_itself}
use Rattle.pbn_words.proofs.words.equals_word.Goals as goal

pub returns-then-part-lt2 : goal.returns-then-part-lt2
returns-then-part-lt2 c = equals_short _ _ c.if-part-lt2.true

pub returns-then-part-last-ne61 : goal.returns-then-part-last-ne61
returns-then-part-last-ne61 c = equals_open _ _ c.if-part-lt2.false c.if-part-last-ne61.true

pub note_named-requires : goal.note_named-requires
note_named-requires c = omega (arith, number_most 255 _ _ _ c.read_number.ensures c.in-Some.is)

pub returns-in-Some : goal.returns-in-Some
returns-in-Some c = equals_note _ _ c.if-part-lt2.false c.if-part-last-ne61.false _ c.read_number.ensures _ c.in-Some.is _ c.note_named.ensures

pub returns-in-None : goal.returns-in-None
returns-in-None c = equals_itself _ _ c.if-part-lt2.false c.if-part-last-ne61.false _ c.read_number.ensures c.in-None.is
