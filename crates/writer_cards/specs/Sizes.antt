-- How many cards each hand of a deal has, and whether East is implied. (01: Writer, md)
use Rattle.std.specs.Prelude.{ℕ, ◌<◌, ◌^◌, ◌≡◌, Bool, not, List, eqb}
use Rattle.lin_spec.specs.Base.{any}
use Rattle.lin_spec.specs.Letters.{hand_length}
use Rattle.lin_spec.specs.Writer.{implied_east}
use Rattle.lin_spec.specs.declared.Seat.TheVariants.{South, West, North, East}
use Rattle.writer_cards.specs.declared.sizes.Sizes.{Sizes}

-- a card that is held has a count
abbrev pub counted : ℕ → Bool
counted n = not (eqb n 0)

-- z is what the deal d has
pub record Sized (d : List ℕ) (z : Sizes) : Type 0 where
  pub held : z.held ≡ any counted d
  pub south : z.south ≡ hand_length d South
  pub west : z.west ≡ hand_length d West
  pub north : z.north ≡ hand_length d North
  pub east : z.east ≡ hand_length d East
  pub implied : z.implied ≡ implied_east d

-- as 52 counts of 32 bits have
pub record Small (z : Sizes) : Type 0 where
  pub south : z.south < 2 ^ 38
  pub west : z.west < 2 ^ 38
  pub north : z.north < 2 ^ 38
  pub east : z.east < 2 ^ 38
