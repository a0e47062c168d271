-- What a few bytes say of the token that they are. (01: Tokens)
use Rattle.std.specs.Prelude.{ℕ, ◌+◌, ◌-◌, ◌≤◌, ◌<◌, ◌≡◌, length, List, Some}
use Rattle.lin_spec.specs.Records.{part}
use Rattle.lin_spec.specs.White.{trim, lower}
use Rattle.lin_spec.specs.Tokens.{pipe}
use Rattle.lin_spec.specs.Cursor.{find_from}
use Rattle.lin_spec.specs.Cards.{read_card}
use Rattle.document_commands.specs.Commands.{command_of, pc_no, other_no, Unmarked}

-- a token at r is one at `at` too, with the same command
pub record Skips (s : List ℕ) (at r : ℕ) : Type 0 where
  pub find : find_from pipe s r ≡ find_from pipe s at
  pub same : (p : ℕ) → r ≤ p → p ≤ length s → command_of (part s r (p - r)) ≡ command_of (part s at (p - at))

-- a command of two bytes
pub record PairAt (s : List ℕ) (a : ℕ) : Type 0 where
  pub within : a + 3 ≤ length s
  pub first : find_from pipe s a ≡ a + 2

-- a token whose command has two bytes, and the pipe after whose value is at q
pub record ShortAt (s : List ℕ) (a q : ℕ) : Type 0 where
  pub first : find_from pipe s a ≡ a + 2
  pub second : find_from pipe s (a + 3) ≡ q
  pub within : q < length s

-- a pc of six bytes, of the card r
pub record CardAt (s : List ℕ) (a r : ℕ) : Type 0 where
  pub short : ShortAt s a (a + 5)
  pub command : pc_no ≡ command_of (part s a 2)
  pub card : read_card (trim (part s (a + 3) 2)) ≡ Some r

-- a `pg||`
pub record PageAt (s : List ℕ) (a : ℕ) : Type 0 where
  pub short : ShortAt s a (a + 3)
  pub command : other_no ≡ command_of (part s a 2)

-- a byte that is neither a pipe nor the second letter of qx, md, mn or pn
pub record OtherLetter (b : ℕ) : Type 0 where
  pub bar : b ≡ pipe → ⊥
  pub d : lower b ≡ 100 → ⊥
  pub n : lower b ≡ 110 → ⊥
  pub x : lower b ≡ 120 → ⊥

-- a command of two bytes that is none of them
pub record UnmarkedAt (s : List ℕ) (a : ℕ) : Type 0 where
  pub pair : PairAt s a
  pub unmarked : Unmarked (command_of (part s a 2))
