-- All the texts of a board, from its sources. (01: From PBN)
use Rattle.lin_spec.specs.declared.Span.{Span}
use Rattle.std.specs.Prelude.{ℕ, List, [], ◌∷◌, ◌++◌, Option}
use Rattle.lin_spec.specs.Writer.{clean}
use Rattle.lin_spec.specs.Pbn.{pbn_rows}
use Rattle.output.specs.Put.{joined}
use Rattle.pbn_texts.specs.declared.sources.Sources.{Sources}
use Rattle.pbn_texts.specs.Texts.{title_text, labelled_text}
use Rattle.pbn_texts.specs.Names.{pbn_names_text}
use Rattle.pbn_texts.specs.Calls.{pbn_calls_bytes}

-- those after the names, before cleaning
abbrev pub raw_pieces : (s : List ℕ) → Sources → (notes calls : List ℕ) → List (List ℕ)
raw_pieces s x ns ws = title_text s x.event x.date ∷ labelled_text s x.label ∷ pbn_calls_bytes s ns (pbn_rows ws) ∷ []

unfoldable pub raw_text : (s : List ℕ) → Sources → (notes calls : List ℕ) → List ℕ
raw_text s x ns ws = joined (raw_pieces s x ns ws)

-- the names, and those after them cleaned
unfoldable pub texts_of : (p q : ℕ) (s : List ℕ) (names : List (Option Span)) → Sources → (notes calls : List ℕ) → List ℕ
texts_of p q s ms x ns ws = pbn_names_text p q s ms ++ clean p q (raw_text s x ns ws)
