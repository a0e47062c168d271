-- The fields of a board's heading as the code keeps them while it reads. (01: Board)
use Rattle.std.specs.Prelude.{ℕ, ◌+◌, Bool, false, ◌||◌, List, [], ◌∷◌, length, eqb, Option, None, Some}
use Rattle.lin_spec.specs.Base.{pick}
use Rattle.lin_spec.specs.Records.{span, bytes_at}
use Rattle.lin_spec.specs.White.{trim}
use Rattle.lin_spec.specs.Tokens.{Pieces}
use Rattle.lin_spec.specs.Tokens.Pieces.{end, piece}
use Rattle.lin_spec.specs.declared.Span.{Span}

-- the value of an md begins with the digit of a dealer
unfoldable pub is_dealer : List ℕ → Bool
is_dealer [] = false
is_dealer (b ∷ s) = eqb b 0x31 || (eqb b 0x32 || (eqb b 0x33 || eqb b 0x34))

-- the value of the last md that is accepted, where v is the value of the next
abbrev pub last_md : (s : List ℕ) (v : Span) → Option Span → Option Span
last_md s v old = pick (is_dealer (trim (bytes_at s v))) (Some v) old

-- the pieces of a value that starts at `start` replace names, the first of them at `place`
unfoldable pub names_from : (start place : ℕ) → Pieces → List Span → List Span
names_from start k p [] = []
names_from start k (end x) (n ∷ ns) = span (start + k) (length x) ∷ ns
names_from start k (piece x r) (n ∷ ns) = span (start + k) (length x) ∷ names_from start (k + (length x + 1)) r ns

-- one more, where there is a card
abbrev pub more : Option ℕ → ℕ → ℕ
more None n = n
more (Some c) n = n + 1
