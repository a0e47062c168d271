-- Numbers in decimal. (01: Program linlist; Writer, mc)
use Rattle.std.specs.Prelude.{ℕ, zero, suc, ◌+◌, ◌/◌, ◌%◌, List, [], ◌∷◌, ◌++◌, ltb}
use Rattle.lin_spec.specs.Base.{pick}

-- the byte of a digit
abbrev pub digit : ℕ → ℕ
digit n = 0x30 + n

-- the digits of n, of which `more` at most stand before the last
unfoldable pub digits_of : (more n : ℕ) → List ℕ
digits_of zero n = digit n ∷ []
digits_of (suc m) n = pick (ltb n 10) (digit n ∷ []) (digits_of m (n / 10) ++ (digit (n % 10) ∷ []))

-- the digits of n without leading zeros; n is as many as can stand before the last
unfoldable pub decimal : ℕ → List ℕ
decimal n = digits_of n n
