-- The cards of a run of tokens one at a time, as the code gives them. (01: Board, pc)
use Rattle.document.specs.declared.tokens.Cursor.{Cursor}
use Rattle.std.specs.Prelude.{ℕ, ◌≡◌, List, [], ◌∷◌, Option, None, Some}
use Rattle.lin_spec.specs.Base.{pick, ascii}
use Rattle.lin_spec.specs.Records.{bytes_at}
use Rattle.lin_spec.specs.White.{trim, is_command}
use Rattle.lin_spec.specs.Tokens.{TokenOf}
use Rattle.lin_spec.specs.Tokens.TokenOf.{token}
use Rattle.lin_spec.specs.Cards.{read_card}
use Rattle.lin_spec.specs.Reading.{stream}
use Rattle.lin_spec.specs.declared.Span.{Span}

abbrev pub before : Option ℕ → List ℕ → List ℕ
before None cs = cs
before (Some c) cs = c ∷ cs

-- the card of a pc's value, if it is one
abbrev pub pc_card : (s : List ℕ) (v : Span) → List ℕ
pc_card s v = before (read_card (trim (bytes_at s v))) []

-- the cards from a place of the tokens on
unfoldable pub cards_from : (s : List ℕ) → List (TokenOf Span) → List ℕ
cards_from s [] = []
cards_from s (token w v ∷ ts) = before (pick (is_command w (ascii "pc")) (read_card (trim (bytes_at s v))) None) (cards_from s ts)

abbrev pub GivesCard : (s : List ℕ) (at : ℕ) → Option (ℕ × Cursor) → Type 0
GivesCard s at (Some (x, c)) = cards_from s (stream s at) ≡ x ∷ cards_from s (stream s c.at)
GivesCard s at None = cards_from s (stream s at) ≡ []
