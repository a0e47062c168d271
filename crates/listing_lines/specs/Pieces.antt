-- A board's line as the pieces that are put one after the other. (01: Program linlist)
use Rattle.std.specs.Prelude.{ℕ, List, [], ◌∷◌}
use Rattle.lin_spec.specs.Base.{ascii}
use Rattle.lin_spec.specs.Decimal.{decimal}
use Rattle.lin_spec.specs.Letters.{seat_letter, sv_letter, hand_length}
use Rattle.lin_spec.specs.Refusals.{number_of}
use Rattle.lin_spec.specs.Listing.{claim_word}
use Rattle.lin_spec.specs.declared.Seat.{Seat}
use Rattle.lin_spec.specs.declared.Seat.TheVariants.{South, West, North, East}
use Rattle.lin_spec.specs.declared.Vulnerability.{Vulnerability}
use Rattle.lin_spec.specs.declared.Refusal.{Refusal}
use Rattle.lin_spec.specs.declared.Heading.{Heading}
use Rattle.output.specs.Put.{joined}

-- "dealer letter, written sv letter", each after a space
abbrev pub letters_pieces : Seat → Vulnerability → List (List ℕ)
letters_pieces x v = ascii " " ∷ (seat_letter x ∷ []) ∷ ascii " " ∷ (sv_letter v ∷ []) ∷ []

unfoldable pub letters_text : Seat → Vulnerability → List ℕ
letters_text x v = joined (letters_pieces x v)

-- a number after a space
abbrev pub field_pieces : ℕ → List (List ℕ)
field_pieces n = ascii " " ∷ decimal n ∷ []

unfoldable pub field_text : ℕ → List ℕ
field_text n = joined (field_pieces n)

-- "hand lengths"
abbrev pub lengths_pieces : (deal : List ℕ) → List (List ℕ)
lengths_pieces d = field_text (hand_length d South) ∷ field_text (hand_length d West) ∷ field_text (hand_length d North) ∷ field_text (hand_length d East) ∷ []

unfoldable pub lengths_text : (deal : List ℕ) → List ℕ
lengths_text d = joined (lengths_pieces d)

-- a board's line
abbrev pub line_pieces : (number : ℕ) → Heading → List (List ℕ)
line_pieces k h =
    let b = h.board in
    decimal k
    ∷ letters_text b.dealer b.vulnerability
    ∷ lengths_text b.deal.counts
    ∷ field_text h.calls
    ∷ field_text h.cards
    ∷ ascii " "
    ∷ claim_word b.claim
    ∷ ascii "\n"
    ∷ []

-- a refusal's line
abbrev pub refusal_pieces : Refusal → List (List ℕ)
refusal_pieces r = ascii "refused " ∷ decimal (number_of r) ∷ ascii "\n" ∷ []
