-- What the numbers of letters stand for, and the bytes that are a card. (01: Records)
use Rattle.std.specs.Prelude.{ℕ, ◌-◌, ◌&&◌, ◌≡◌, List, [], ◌∷◌, leb, ltb, Option, None, Some}
use Rattle.lin_spec.specs.Base.{pick, ascii}
use Rattle.lin_spec.specs.White.{trim}
use Rattle.lin_spec.specs.Tokens.{pipe}
use Rattle.lin_spec.specs.Cards.{read_card}

-- the table of letters: for each byte below 128 a letter, A for 0, up to R for 17, which is that of no suit and no rank
unfoldable pub table : List ℕ
table = ascii "RRRRRRRRRRRRRRRRRRRRRRRRRRRRRRRRRRRRRRRRRRRRRRRRRREFGHIJKLRRRRRRRQRDCRRRBRNPRRRRRORAMRRRRRRRRRRRRQRDCRRRBRNPRRRRRORAMRRRRRRRRRRR"

-- the suit and the rank that a letter's number stands for
abbrev pub suit_in : ℕ → Option ℕ
suit_in n = pick (ltb n 4) (Some n) None

abbrev pub rank_in : ℕ → Option ℕ
rank_in n = pick (leb 4 n && ltb n 17) (Some (n - 4)) None

-- two bytes that are the card r, in any text; neither is a pipe
pub record CardIs (a b r : ℕ) : Type 0 where
  pub card : read_card (trim (a ∷ b ∷ [])) ≡ Some r
  pub first : a ≡ pipe → ⊥
  pub second : b ≡ pipe → ⊥
