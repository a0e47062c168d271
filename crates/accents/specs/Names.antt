-- Which names are the same, and how many characters a name is mapped to. (02: N3, "The finder's sameness takes canonical equivalence this far")
use Rattle.std.specs.Prelude.{ℕ, Bool, List, length, ltb}
use Rattle.lin_spec.specs.Base.{all, eq_list}
use Rattle.accents.specs.Mapping.{mapped}
use Rattle.accents.specs.Ordering.{canonical}
use Rattle.accents.specs.Chars.{chars}

-- "Two names are the same exactly when the results are equal."
unfoldable pub same_name : (a b : List ℕ) → Bool
same_name a b = eq_list (canonical (chars a)) (canonical (chars b))

-- "the mapped characters" of a name: a place of the work space for each
unfoldable pub places : List ℕ → ℕ
places a = length (mapped (chars a))

-- each byte is of ASCII
unfoldable pub only_ascii : List ℕ → Bool
only_ascii a = all (λ (b : ℕ). ltb b 0x80) a
