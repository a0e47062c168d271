-- What follows and what precedes a card, by how many are played. (01: Writer, pc and pg; play text)
use Rattle.std.specs.Prelude.{ℕ, ◌%◌, ◌||◌, List, [], eqb}
use Rattle.lin_spec.specs.Base.{pick, ascii}

-- after a card: the end of the trick, where it is the fourth or the last of all
unfoldable pub trick_end : (played all : ℕ) → List ℕ
trick_end k n = pick (eqb (k % 4) 0 || eqb k n) (ascii "pg||\n") []

-- before a card, after so many: nothing before the first, a pipe between tricks, a space within one
unfoldable pub before_card : (played : ℕ) → List ℕ
before_card k = pick (eqb k 0) [] (pick (eqb (k % 4) 0) (ascii "|") (ascii " "))
