-- The note at a place in the words. (01: From PBN, "a note span or absent for each of the 256 note numbers")
use Rattle.std.specs.Prelude.{ℕ, ◌+◌, List, [], ◌∷◌, get_or, eqb}
use Rattle.lin_spec.specs.Base.{pick}
use Rattle.lin_spec.specs.Records.{span}
use Rattle.lin_spec.specs.declared.Span.{Span}

-- the span of the note of the three words from i on, if there is one
abbrev pub note_at : (ws : List ℕ) (i : ℕ) → List Span
note_at ws i = pick (eqb (get_or ws i 0) 0) [] (span (get_or ws (i + 1) 0) (get_or ws (i + 2) 0) ∷ [])
