-- `cards::letters::letter_number` meets its contract, by the table's rule. (01: Records)
use borrow.Author.Rules.{rules}
use Rattle.cards.proofs.LetterLaws.{letter_far, letter_in, letter_least}
use Rattle.cards.proofs.letters.letter_number.Goals as goal

pub returns-then-c-gt127 : goal.returns-then-c-gt127
returns-then-c-gt127 c = letter_far _ (search rules) c.if-c-gt127.true

pub overflow_sub-result : goal.overflow_sub-result
overflow_sub-result c = letter_least _ c.requires _ c.if-c-gt127.false

pub returns : goal.returns
returns c = letter_in _ c.requires _ c.if-c-gt127.false
