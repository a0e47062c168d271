-- Title, room-and-board and header as they are before cleaning. (01: From PBN)
use Rattle.std.specs.Prelude.{ℕ, List, [], ◌∷◌, ◌++◌, Option}
use Rattle.lin_spec.specs.Base.{pick, ascii}
use Rattle.lin_spec.specs.Records.{bytes_at}
use Rattle.lin_spec.specs.Writer.{or_empty}
use Rattle.lin_spec.specs.Pbn.{title_of, text_by}
use Rattle.lin_spec.specs.declared.Span.{Span}
use Rattle.output.specs.Put.{joined}
use Rattle.writer_texts.specs.Texts.{empty_or}
use Rattle.pbn_texts.specs.declared.sources.Label.{Label}
use Rattle.pbn_texts.specs.Sources.{label_by, labelled}

-- the bytes of a label, none where it is absent
abbrev pub label_bytes : (s : List ℕ) → Option Label → List ℕ
label_bytes s l = or_empty (label_by s l)

-- a title that has a date, and any
abbrev pub dated_pieces : (s : List ℕ) (event : Option Span) (date : Span) → List (List ℕ)
dated_pieces s e d = empty_or s e ∷ ascii " - " ∷ bytes_at s d ∷ []

unfoldable pub dated_text : (s : List ℕ) (event : Option Span) (date : Span) → List ℕ
dated_text s e d = joined (dated_pieces s e d)

abbrev pub title_text : (s : List ℕ) (event date : Option Span) → List ℕ
title_text s e d = or_empty (title_of (text_by s e) (text_by s d))

-- room-and-board and header with a label
abbrev pub labels_pieces : (s : List ℕ) → Option Label → List (List ℕ)
labels_pieces s l = ascii "o" ∷ label_bytes s l ∷ ascii ",BOARD " ∷ label_bytes s l ∷ ascii "Board " ∷ label_bytes s l ∷ []

unfoldable pub labels_text : (s : List ℕ) → Option Label → List ℕ
labels_text s l = joined (labels_pieces s l)

abbrev pub labelled_text : (s : List ℕ) → Option Label → List ℕ
labelled_text s l = pick (labelled l) (labels_text s l) []

-- the first of the two, and the second
abbrev pub room_text : (s : List ℕ) → Option Label → List ℕ
room_text s l = pick (labelled l) (ascii "o" ++ (label_bytes s l ++ (ascii ",BOARD " ++ label_bytes s l))) []

abbrev pub label_header : (s : List ℕ) → Option Label → List ℕ
label_header s l = pick (labelled l) (ascii "Board " ++ label_bytes s l) []
