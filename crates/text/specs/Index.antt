-- Where a text is ill-formed, looked up by blocks: what makes check 6 linear whatever the spans. (01: Eight refusals, 6)
use Rattle.std.specs.Prelude.{ℕ, zero, suc, ◌+◌, ◌*◌, ◌-◌, ◌≤◌, ◌<◌, ◌≡◌, Bool, not, List, length, drop, get_or, leb}
use Rattle.lin_spec.specs.Base.{pick}
use Rattle.lin_spec.specs.Records.{part}
use Rattle.lin_spec.specs.Utf8.{utf8, longest}

-- the first ill-formed place of s at or after x, in so many turns: whole characters up to the end of the longest well-formed start, then a byte that is no
-- part of one, and so on
unfoldable pub ill_from : (turns : ℕ) → List ℕ → (x : ℕ) → ℕ
ill_from zero s x = longest s
ill_from (suc f) s x = pick (leb x (longest s)) (longest s) (longest s + 1 + ill_from f (drop (longest s + 1) s) (x - (longest s + 1)))

-- each turn passes a byte at least, so x of them are enough. Where there is none, and x is within s, it is the length
abbrev pub next_ill : List ℕ → (x : ℕ) → ℕ
next_ill s x = ill_from x s x

-- next holds, for each block of 1,024 bytes of s that it has a word for, the next ill-formed place at or after the block's first byte. No word at all
-- is an index too, and so is one, the longest well-formed start
abbrev pub Indexed : (s next : List ℕ) → Type 0
Indexed s next = (k : ℕ) → k < length next → k * 1024 ≤ length s → get_or next k 0 ≡ next_ill s (k * 1024)

-- n bytes of s from the place a on are not UTF-8
abbrev pub ill_part : List ℕ → (a n : ℕ) → Bool
ill_part s a n = not (utf8 (part s a n))

-- the words from k on of a list that was old are p now, each for a block that begins at or before p; m is the place after them
pub record Filled (old : List ℕ) (k p : ℕ) (new : List ℕ) (m : ℕ) : Type 0 where
  pub order : k ≤ m
  pub long : length new ≡ length old
  pub kept : (j : ℕ) → j < k → get_or new j 0 ≡ get_or old j 0
  pub stored : (j : ℕ) → k ≤ j → j < m → get_or new j 0 ≡ p
  pub begun : (j : ℕ) → k ≤ j → j < m → j * 1024 ≤ p
