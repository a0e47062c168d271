-- The four names, cleaned and back to back. (01: From PBN)
use Rattle.lin_spec.specs.declared.Span.{Span}
use Rattle.std.specs.Prelude.{ℕ, List, [], ◌∷◌, map, get_or, Option, None}
use Rattle.lin_spec.specs.Base.{concat}
use Rattle.lin_spec.specs.Pbn.{name_by}

-- the name of a seat
abbrev pub pbn_name_at : (p q : ℕ) (s : List ℕ) → List (Option Span) → (seat : ℕ) → List ℕ
pbn_name_at p q s ms i = name_by p q s (get_or ms i None)

abbrev pub pbn_names_pieces : (p q : ℕ) (s : List ℕ) → List (Option Span) → List (List ℕ)
pbn_names_pieces p q s ms = pbn_name_at p q s ms 0 ∷ pbn_name_at p q s ms 1 ∷ pbn_name_at p q s ms 2 ∷ pbn_name_at p q s ms 3 ∷ []

unfoldable pub pbn_names_text : (p q : ℕ) (s : List ℕ) → List (Option Span) → List ℕ
pbn_names_text p q s ms = concat (map (name_by p q s) ms)
