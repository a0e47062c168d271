-- A written deal as the pieces that are put, and the tests of East. (01: Writer, md)
use Rattle.std.specs.Prelude.{ℕ, Bool, List, [], ◌∷◌, ◌++◌}
use Rattle.lin_spec.specs.Base.{pick, ascii}
use Rattle.lin_spec.specs.Cards.{unheld_cards, thirteens}
use Rattle.lin_spec.specs.Letters.{hand_at}
use Rattle.lin_spec.specs.Writer.{suit_text, hand_text, implied_east, dealer_digit}
use Rattle.lin_spec.specs.declared.Seat.{Seat}
use Rattle.lin_spec.specs.declared.Seat.TheVariants.{South, West, North, East}
use Rattle.output.specs.Put.{joined}

-- the suits of a hand
abbrev pub suits_pieces : (hand : List ℕ) → List (List ℕ)
suits_pieces h = suit_text h 0 ∷ suit_text h 1 ∷ suit_text h 2 ∷ suit_text h 3 ∷ []

unfoldable pub suits_text : (hand : List ℕ) → List ℕ
suits_text h = joined (suits_pieces h)

-- "three lengths are 13"
unfoldable pub others_thirteen : (deal : List ℕ) → Bool
others_thirteen d = thirteens (hand_at d South) (hand_at d West) (hand_at d North)

-- the remainder of the hands before East's
unfoldable pub rest_of : (deal : List ℕ) → List ℕ
rest_of d = unheld_cards (hand_at d South) (hand_at d West) (hand_at d North)

-- East's field with its comma, unless it is left out
unfoldable pub east_text : (deal : List ℕ) → List ℕ
east_text d = pick (implied_east d) [] (ascii "," ++ hand_text (hand_at d East))

-- the value of md where no card is held
abbrev pub bare_text : (dealer : Seat) → List ℕ
bare_text x = (dealer_digit x ∷ []) ++ ascii ",,,"

-- the value of md
abbrev pub md_pieces : (dealer : Seat) (deal : List ℕ) → List (List ℕ)
md_pieces x d =
    (dealer_digit x ∷ [])
    ∷ hand_text (hand_at d South)
    ∷ ascii ","
    ∷ hand_text (hand_at d West)
    ∷ ascii ","
    ∷ hand_text (hand_at d North)
    ∷ east_text d
    ∷ []
