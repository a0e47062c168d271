-- `cards::letters::suit_of` meets its contract: by the number, which says whether it stands for one. (01: Records)
use mathlib.Core.Path.{refl, sym, ◌∙◌}
use borrow.Author.Tests.{lt-ltb, le-ltb}
use Rattle.cards.specs.Letters.{table}
use Rattle.cards.proofs.letters.suit_of.Goals as goal

pub letter_number-n-requires : goal.letter_number-n-requires
unfolding table
letter_number-n-requires c = refl

pub returns-then-n-lt4 : goal.returns-then-n-lt4
returns-then-n-lt4 c = sym (c.letter_number-n.ensures.0 ∙ simp (lt-ltb _ _ c.if-n-lt4.true))

pub returns : goal.returns
returns c = sym (c.letter_number-n.ensures.0 ∙ simp (le-ltb _ _ c.if-n-lt4.false))
