-- What the search for a byte hands on. (01: Tokens)
use Rattle.std.specs.Prelude.{ℕ, ◌+◌, ◌≤◌, ◌≡◌, List, length}
use Rattle.lin_spec.specs.Cursor.{find_from}

-- s has sixteen bytes from the place i on, none of them c
pub record Without (s : List ℕ) (c i : ℕ) : Type 0 where
  pub within : i + 16 ≤ length s
  pub after : find_from c s (i + 16) ≡ find_from c s i
