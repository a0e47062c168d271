-- The written form of a lent board as the pieces that are put one after the other. (01: Writer)
use Rattle.std.specs.Prelude.{ℕ, List, [], ◌∷◌, Option}
use Rattle.lin_spec.specs.Base.{ascii}
use Rattle.lin_spec.specs.Decimal.{decimal}
use Rattle.lin_spec.specs.Letters.{sv_letter}
use Rattle.lin_spec.specs.Writer.{clean, md_text, tricks_text, claim_text}
use Rattle.lin_spec.specs.declared.Board.{Board}
use Rattle.board_lent.specs.declared.heads.Head.{Head}
use Rattle.board_lent.specs.Heads.{head_of}
use Rattle.output.specs.Put.{joined}
use Rattle.writer_texts.specs.Texts.{empty_or, header_text, names_text}

-- the heading texts of a board
abbrev pub heading_pieces : (p q : ℕ) (text : List ℕ) → Head → List (List ℕ)
heading_pieces p q s h =
    ascii "mn|"
    ∷ clean p q (empty_or s h.title)
    ∷ ascii "|pn|"
    ∷ names_text p q s h.names
    ∷ ascii "|qx|"
    ∷ clean p q (empty_or s h.room_board)
    ∷ ascii "|rh||"
    ∷ header_text p q s h.board_header
    ∷ []

unfoldable pub heading_text : (p q : ℕ) (text : List ℕ) → Head → List ℕ
heading_text p q s h = joined (heading_pieces p q s h)

-- its deal and vulnerability, and what begins the calls
abbrev pub dealing_pieces : Board → List (List ℕ)
dealing_pieces b =
    ascii "md|" ∷ md_text (record { dealer = b.dealer; deal = b.deal.counts }) ∷ ascii "|sv|" ∷ (sv_letter b.vulnerability ∷ []) ∷ ascii "|\nsa|0|" ∷ []

unfoldable pub dealing_text : Board → List ℕ
dealing_text b = joined (dealing_pieces b)

-- a claim that is made
abbrev pub claimed_pieces : ℕ → List (List ℕ)
claimed_pieces n = ascii "mc|" ∷ decimal n ∷ ascii "|pg||\n" ∷ []

unfoldable pub claimed_text : ℕ → List ℕ
claimed_text n = joined (claimed_pieces n)

-- all that stands before its calls, and after them
abbrev pub front_pieces : (p q : ℕ) (text : List ℕ) → Board → List (List ℕ)
front_pieces p q s b = heading_text p q s (head_of b) ∷ dealing_text b ∷ []

unfoldable pub front_text : (p q : ℕ) (text : List ℕ) → Board → List ℕ
front_text p q s b = joined (front_pieces p q s b)

abbrev pub back_pieces : Option ℕ → (cards : List ℕ) → List (List ℕ)
back_pieces c cs = ascii "pg||\n" ∷ tricks_text cs ∷ claim_text c ∷ []

unfoldable pub back_text : Option ℕ → (cards : List ℕ) → List ℕ
back_text c cs = joined (back_pieces c cs)

-- all of it, around the text of its calls
abbrev pub board_pieces : (p q : ℕ) (text : List ℕ) → Board → (calls cards : List ℕ) → List (List ℕ)
board_pieces p q s b ks cs = front_text p q s b ∷ ks ∷ back_text b.claim cs ∷ []
