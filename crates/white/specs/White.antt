-- White characters as the code looks for them: one by its bytes, and the one at the end of a text. (01: Records; 02: N2)
use Rattle.std.specs.Prelude.{ℕ, ◌-◌, Bool, List, [], ◌∷◌, map, length, get_or, eqb, leb}
use Rattle.lin_spec.specs.Base.{pick, any, eq_list}
use Rattle.lin_spec.specs.Utf8.{encode}
use Rattle.lin_spec.specs.White.{whites}

-- x is the bytes of one white character
unfoldable pub is_white : List ℕ → Bool
is_white x = any (eq_list x) (map encode whites)

-- how many bytes the white character at the end of s has, 0 where there is none
unfoldable pub white_back : List ℕ → ℕ
white_back [] = 0
white_back (b ∷ s) = pick (eqb (white_back s) 0) (pick (is_white (b ∷ s)) (length (b ∷ s)) 0) (white_back s)

-- the byte that is k before the end of s, 0 before its start
unfoldable pub last : List ℕ → ℕ → ℕ
last s k = pick (leb k (length s)) (get_or s (length s - k) 0) 0
