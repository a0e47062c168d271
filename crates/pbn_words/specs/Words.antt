-- The word of a part as the code tells it, by the first byte; and words one after the other, with spaces. (01: From PBN, "Annotation parts ..")
use Rattle.std.specs.Prelude.{ℕ, suc, Bool, false, ◌||◌, not, List, [], ◌∷◌, ◌++◌, drop, eqb, Option, None, Some}
use Prim.Native.Char.{code}
use Rattle.lin_spec.specs.Base.{pick, null, ascii}
use Rattle.lin_spec.specs.Records.{bytes_at}
use Rattle.lin_spec.specs.Board.{ends_in, number_in}
use Rattle.lin_spec.specs.Annotation.{note_of, is_mark, annotation_parts, nag_word, between, part_word}
use Rattle.lin_spec.specs.declared.Span.{Span}
use Rattle.pbn_words.specs.declared.words.Word.{Word}
use Rattle.pbn_words.specs.declared.words.Word.TheVariants.{Nothing, Itself, Note, Mark}

-- The word of a part

abbrev pub note_by : Option Span → Word
note_by None = Itself
note_by (Some x) = Note x

abbrev pub note_named : (notes : List ℕ) (number : ℕ) → Word
note_named ws n = note_by (note_of ws n)

abbrev pub number_by : (notes : List ℕ) → Option ℕ → Word
number_by ws None = Itself
number_by ws (Some n) = note_named ws n

-- of a part that begins with `=`
unfoldable pub equals_word : (notes part : List ℕ) → Word
equals_word ws p = pick (ends_in (code "=") (drop 1 p)) (number_by ws (number_in 255 (between p))) Nothing

-- of a part that begins with `$`
unfoldable pub nag_of : (part : List ℕ) → Word
nag_of [] = Nothing
nag_of (b ∷ []) = Nothing
nag_of (b ∷ d ∷ []) = Mark d
nag_of (b ∷ d ∷ e ∷ p) = Nothing

unfoldable pub front_word : (notes part : List ℕ) → Word
front_word ws [] = Nothing
front_word ws (b ∷ p) = pick (eqb b (code "=")) (equals_word ws (b ∷ p)) (pick (eqb b (code "$")) (nag_of (b ∷ p)) (pick (is_mark b) Itself Nothing))

-- what `$` with this digit gives
abbrev pub nag_text : (digit : ℕ) → List ℕ
nag_text d = nag_word (code "$" ∷ d ∷ [])

-- the bytes of the word of a part
abbrev pub word_text : (s part : List ℕ) → Word → List ℕ
word_text s p Nothing = []
word_text s p Itself = p
word_text s p (Note x) = bytes_at s x
word_text s p (Mark d) = nag_text d

-- Words one after the other

-- a word with the space before it, if a word stands before it
abbrev pub spaced_word : (later : Bool) → List ℕ → List ℕ
spaced_word t [] = []
spaced_word t (b ∷ w) = pick t (ascii " ") [] ++ (b ∷ w)

-- and how many bytes that has
abbrev pub spaced_length : (later : Bool) → ℕ → ℕ
spaced_length t n = pick (eqb n 0) 0 (pick t (suc n) n)

-- the words of parts, so
unfoldable pub text_from : (s notes : List ℕ) (later : Bool) → List (List ℕ) → List ℕ
text_from s ws t [] = []
text_from s ws t (p ∷ ps) = let w = part_word s ws p in spaced_word t w ++ text_from s ws (t || not (null w)) ps

unfoldable pub parts_text : (s notes raw : List ℕ) → List ℕ
parts_text s ws raw = text_from s ws false (annotation_parts raw)
