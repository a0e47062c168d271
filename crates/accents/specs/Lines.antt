-- The table as the code has it: a number for each line, searched by halves. (02: N3)
use Rattle.std.specs.Prelude.{ℕ, suc, ◌+◌, ◌*◌, ◌<◌, ◌≤◌, ◌≡◌, Bool, false, ◌&&◌, ◌||◌, List, [], ◌∷◌, leb, ltb, get_or, take}
use Rattle.lin_spec.specs.Base.{pick}
use Rattle.accents.specs.Table.{Mapping, mapping_table}
use Rattle.accents.specs.Table.Mapping.{one, two}
use Rattle.accents.specs.Mapping.{char_of, applies, mapped}
use Rattle.accents.specs.declared.full.Full.{Full}
use Rattle.accents.specs.declared.lookup.Mapped.{Mapped}
use Rattle.accents.specs.declared.lookup.Mapped.TheVariants.{Itself, One, Two}

-- the first and the second that a line gives, 0 where there is no second
abbrev pub first_given : Mapping → ℕ
first_given (one c a) = a
first_given (two c a b) = a

abbrev pub second_given : Mapping → ℕ
second_given (one c a) = 0
second_given (two c a b) = b

-- a line in one number, of 16 bits for each
abbrev pub line_word : Mapping → ℕ
line_word m = char_of m * 4294967296 + first_given m * 65536 + second_given m

unfoldable pub table_words : List Mapping → List ℕ
table_words [] = []
table_words (m ∷ t) = line_word m ∷ table_words t

-- the characters among which the lines are: from the first to the last of each of three runs
unfoldable pub near : ℕ → Bool
near c = leb 0xC0 c && leb c 0x233 || leb 0x340 c && leb c 0x344 || leb 0x1E00 c && leb c 0x1EF9

-- the line of a number
abbrev pub mapping_at : List Mapping → ℕ → Mapping
mapping_at t i = get_or t i (one 0 0)

-- how many lines at the front are for characters below c
unfoldable pub lines_below : List Mapping → ℕ → ℕ
lines_below [] c = 0
lines_below (m ∷ t) c = pick (ltb (char_of m) c) (suc (lines_below t c)) 0

-- where the block of sixteen characters of a number begins: those from C0 to 34F hex, and then those from 1E00 to 1EFF
abbrev pub block_begin : ℕ → ℕ
block_begin k = pick (ltb k 41) (16 * (k + 12)) (16 * (k + 439))

-- c stands in the block of the number k
pub record InBlock (c k : ℕ) : Type 0 where
  pub within : k < 57
  pub from : block_begin k ≤ c
  pub before : c < block_begin (k + 1)

-- how many lines are for characters below each block
unfoldable pub blocks : List ℕ
blocks = 0 ∷ 15 ∷ 26 ∷ 41 ∷ 53 ∷ 69 ∷ 83 ∷ 97 ∷ 108 ∷ 118 ∷ 132 ∷ 146 ∷ 161 ∷ 161 ∷ 161 ∷ 164 ∷ 165 ∷ 168 ∷ 183 ∷ 197 ∷ 208 ∷ 224 ∷ 238 ∷ 248 ∷ 252 ∷ 252 ∷ 252 ∷ 252 ∷ 252 ∷ 252 ∷ 252 ∷ 252 ∷ 252 ∷ 252 ∷ 252 ∷ 252 ∷ 252 ∷ 252 ∷ 252 ∷ 252 ∷ 252 ∷ 256 ∷ 272 ∷ 288 ∷ 304 ∷ 320 ∷ 336 ∷ 352 ∷ 368 ∷ 384 ∷ 400 ∷ 411 ∷ 427 ∷ 443 ∷ 459 ∷ 475 ∷ 491 ∷ []

-- what an answer says that c is mapped to
abbrev pub answered : ℕ → Mapped → List ℕ
answered c Itself = c ∷ []
answered c (One a) = a ∷ []
answered c (Two a b) = a ∷ b ∷ []

-- the last of the characters is one to which no mapping applies
abbrev pub EndsPlain : List ℕ → Type 0
EndsPlain [] = Unit
EndsPlain (a ∷ []) = applies mapping_table a ≡ false
EndsPlain (a ∷ b ∷ s) = EndsPlain (b ∷ s)

-- the characters that are answered as many as they are, one to three
abbrev pub full : Full → List ℕ
full f = take f.count (f.first ∷ f.second ∷ f.third ∷ [])

pub record FullIs (c : ℕ) (f : Full) : Type 0 where
  pub are : full f ≡ mapped (c ∷ [])
  pub some : 0 < f.count
  pub few : f.count ≤ 3
