-- A cursor's steps over any bytes, from any place. (01: Tokens, "A cursor is stepped over the text ..")
use Rattle.std.specs.Prelude.{ℕ, zero, suc, ◌+◌, ◌≡◌, List, [], ◌∷◌, length, drop, eqb}
use Rattle.lin_spec.specs.Base.{pick}
use Rattle.lin_spec.specs.Tokens.{Pieces, cut, pipe}
use Rattle.lin_spec.specs.Tokens.Pieces.{end, piece}

-- a part of the caller's text: two numbers of 64 bits
pub record Place : Type 0 where
  pub start : ℕ
  pub len : ℕ

abbrev pub place : ℕ → ℕ → Place
place a n = record { start = a; len = n }

-- What a step from a place gives: a token as two parts of the text, or none; and where the cursor then stands.
pub data Step : Type 0 where
  found : (command value : Place) (next : ℕ) → Step
  ended : (next : ℕ) → Step

-- the step from `at`, where the rest of the text is cut so
unfoldable pub step_by : (at : ℕ) → Pieces → Step
step_by at (end x) = ended at
step_by at (piece x (end y)) = ended at
step_by at (piece x (piece y r)) =
    let v = at + (length x + 1) in
    found (place at (length x)) (place v (length y)) (v + (length y + 1))

-- "a step gives none [no refusal] and works on all bytes from any byte place; with fewer than two pipes left it gives no token, stays"
unfoldable pub step_at : List ℕ → (at : ℕ) → Step
step_at s at = step_by at (cut pipe (drop at s))

-- "and shows the remainder as trailing (nothing beyond the end)"
abbrev pub remainder : List ℕ → (at : ℕ) → List ℕ
remainder s at = drop at s

-- A cursor at `at`, stepped until it gives no token: the places of commands and values as words, four to a token, and where it stays.
pub data Steps (s : List ℕ) : (at : ℕ) → (words : List ℕ) → (last : ℕ) → Type 0 where
  stop : {at last : ℕ} → step_at s at ≡ ended last → Steps s at [] last
  more : {at : ℕ} {c v : Place} {next : ℕ} {ws : List ℕ} {last : ℕ} → step_at s at ≡ found c v next → Steps s next ws last
      → Steps s at (c.start ∷ c.len ∷ v.start ∷ v.len ∷ ws) last

-- the place of the first byte c at or after `from`, or the length where there is none
unfoldable pub find_from : (c : ℕ) → List ℕ → (from : ℕ) → ℕ
find_from c [] i = 0
find_from c (b ∷ s) zero = pick (eqb b c) 0 (suc (find_from c s 0))
find_from c (b ∷ s) (suc i) = suc (find_from c s i)
