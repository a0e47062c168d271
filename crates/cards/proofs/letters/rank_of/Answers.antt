-- `cards::letters::rank_of` meets its contract: by the number, which says whether it stands for one. (01: Records)
use mathlib.Core.Path.{refl, sym, ◌∙◌}
use mathlib.Core.Bool.{and-false}
use borrow.Author.Tests.{lt-ltb, le-ltb, le-leb, lt-leb}
use Rattle.cards.specs.Letters.{table}
use Rattle.cards.proofs.letters.rank_of.Goals as goal

pub letter_number-n-requires : goal.letter_number-n-requires
unfolding table
letter_number-n-requires c = refl

pub returns-then-n-lt4 : goal.returns-then-n-lt4
returns-then-n-lt4 c = sym (c.letter_number-n.ensures.1 ∙ simp (lt-leb _ _ c.if-n-lt4.true))

pub returns-then-n-lt17 : goal.returns-then-n-lt17
returns-then-n-lt17 c = sym (c.letter_number-n.ensures.1 ∙ simp (le-leb _ _ c.if-n-lt4.false, lt-ltb _ _ c.if-n-lt17.true))

pub returns : goal.returns
returns c = sym (c.letter_number-n.ensures.1 ∙ simp (le-ltb _ _ c.if-n-lt17.false, and-false))
