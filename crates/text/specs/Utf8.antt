-- UTF-8: what the steps of the check hand on. (01: Eight refusals, 2 and 6)
use Rattle.std.specs.Prelude.{ℕ, ◌+◌, ◌≤◌, ◌≡◌, List, Bool, ◌&&◌, length, drop, get_or, leb}
use Rattle.lin_spec.specs.Utf8.{Utf, longest}
use Rattle.lin_spec.specs.Utf8.Utf.{whole, needs, ill}

-- how many bytes a character has whose first byte brings the machine there, 0 where there is none
abbrev pub bytes_of : Utf → ℕ
bytes_of whole = 1
bytes_of (needs n lo hi) = 2 + n
bytes_of ill = 0

-- the least that its second byte may be
abbrev pub low_of : Utf → ℕ
low_of whole = 0x80
low_of (needs n lo hi) = lo
low_of ill = 0x80

-- the most that it may be
abbrev pub high_of : Utf → ℕ
high_of whole = 0xBF
high_of (needs n lo hi) = hi
high_of ill = 0xBF

-- a byte that is not the first of its character: UTF8-tail
abbrev pub is_tail : ℕ → Bool
is_tail b = leb 0x80 b && leb b 0xBF

-- the byte of s at the place i is one; beyond the end there is none
abbrev pub tail_at : List ℕ → ℕ → Bool
tail_at s i = is_tail (get_or s i 0)

-- the first n bytes of t are whole characters, so that its longest well-formed start goes on after them; n is 0 only where t starts with none
pub record Front (t : List ℕ) (n : ℕ) : Type 0 where
  pub within : n ≤ length t
  pub after : longest t ≡ n + longest (drop n t)
  pub none : n ≡ 0 → longest t ≡ 0

-- the bytes of s from the place a to the place b are whole characters: the longest well-formed starts from a and from b have the same end
pub record Past (s : List ℕ) (a b : ℕ) : Type 0 where
  pub order : a ≤ b
  pub after : a + longest (drop a s) ≡ b + longest (drop b s)

-- s has n bytes from the place i on, all of them whole characters
pub record Block (s : List ℕ) (i n : ℕ) : Type 0 where
  pub within : i + n ≤ length s
  pub past : Past s i (i + n)

-- whole characters of s are passed from i to j; where there is none at i, j is i
pub record PassesChars (s : List ℕ) (i j : ℕ) : Type 0 where
  pub past : Past s i j
  pub none : j ≡ i → longest (drop i s) ≡ 0
