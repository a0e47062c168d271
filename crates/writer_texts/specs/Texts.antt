-- A byte cleaned, and the texts that are put, as pieces. (01: Writer, clean)
use Rattle.std.specs.Prelude.{ℕ, ◌||◌, not, List, [], ◌∷◌, map, get_or, eqb, Option}
use Rattle.lin_spec.specs.Base.{pick, ascii, join_by}
use Rattle.lin_spec.specs.Records.{span, bytes_at}
use Rattle.lin_spec.specs.Tokens.{pipe}
use Rattle.lin_spec.specs.Board.{map_option}
use Rattle.lin_spec.specs.Writer.{clean, clean_name, or_empty, optional}
use Rattle.lin_spec.specs.declared.Span.{Span}
use Rattle.output.specs.Put.{joined}

-- "pipe to `/`, CR and LF each to a space"
abbrev pub clean_byte : (p q b : ℕ) → ℕ
clean_byte p q b = pick (eqb b pipe) p (pick (eqb b 0x0D || eqb b 0x0A) q b)

-- a text after a word, with a pipe after it
abbrev pub after_pieces : (p q : ℕ) (word s : List ℕ) → List (List ℕ)
after_pieces p q w s = w ∷ clean p q s ∷ ascii "|" ∷ []

unfoldable pub after_text : (p q : ℕ) (word s : List ℕ) → List ℕ
after_text p q w s = joined (after_pieces p q w s)

-- the text of a title or a room, and of a header
abbrev pub empty_or : (text : List ℕ) → Option Span → List ℕ
empty_or s x = or_empty (map_option (bytes_at s) x)

abbrev pub header_text : (p q : ℕ) (text : List ℕ) → Option Span → List ℕ
header_text p q s x = optional (ascii "ah|") (map_option (clean p q) (map_option (bytes_at s) x))

-- "names then lose commas": a byte of a name
abbrev pub kept : ℕ → List ℕ
kept b = pick (not (eqb b 0x2C)) (b ∷ []) []

abbrev pub name_at : (p q : ℕ) (text : List ℕ) → List Span → (seat : ℕ) → List ℕ
name_at p q s xs i = clean_name p q (bytes_at s (get_or xs i (span 0 0)))

abbrev pub names_pieces : (p q : ℕ) (text : List ℕ) → List Span → List (List ℕ)
names_pieces p q s xs = name_at p q s xs 0 ∷ ascii "," ∷ name_at p q s xs 1 ∷ ascii "," ∷ name_at p q s xs 2 ∷ ascii "," ∷ name_at p q s xs 3 ∷ []

unfoldable pub names_text : (p q : ℕ) (text : List ℕ) → List Span → List ℕ
names_text p q s xs = join_by (ascii ",") (map (clean_name p q) (map (bytes_at s) xs))
