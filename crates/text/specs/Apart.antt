-- Where two texts differ, looked up by blocks: what makes comparing spans linear where both stand at one place. (01: equality; names)
use Rattle.std.specs.Prelude.{ℕ, suc, ◌+◌, ◌*◌, ◌≤◌, ◌<◌, ◌≡◌, List, [], ◌∷◌, length, drop, get_or, eqb}
use Rattle.lin_spec.specs.Base.{pick}

-- how many bytes two texts have in common from the first on
unfoldable pub common : (s t : List ℕ) → ℕ
common [] t = 0
common (x ∷ s) [] = 0
common (x ∷ s) (y ∷ t) = pick (eqb x y) (suc (common s t)) 0

-- the first place at or after x where they differ, or where one of them has ended
abbrev pub next_apart : (s t : List ℕ) (x : ℕ) → ℕ
next_apart s t x = x + common (drop x s) (drop x t)

-- next holds, for each block of 1,024 bytes that it has a word for, the first such place at or after the block's first byte. No word at all is an
-- index too
abbrev pub Apart : (s t next : List ℕ) → Type 0
Apart s t next = (k : ℕ) → k < length next → get_or next k 0 ≡ next_apart s t (k * 1024)

-- s has sixteen bytes from the place i on, and t has the same: what follows decides
pub record Sixteen (s t : List ℕ) (i : ℕ) : Type 0 where
  pub within : i + 16 ≤ length s
  pub after : next_apart s t (i + 16) ≡ next_apart s t i
