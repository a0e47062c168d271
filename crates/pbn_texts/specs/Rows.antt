-- The words of the rows of the kept calls. (01: From PBN; Records)
use Rattle.std.specs.Prelude.{ℕ, ◌+◌, List, [], ◌∷◌, ◌++◌, length, eqb}
use Rattle.lin_spec.specs.Base.{pick}
use Rattle.lin_spec.specs.declared.PbnCall.{PbnCall}
use Rattle.output.specs.Put.{joined}
use Rattle.pbn_texts.specs.Calls.{is_kept, bid_bytes, note_bytes, pbn_call_bytes}

abbrev pub three_pieces : (x y z : ℕ) → List (List ℕ)
three_pieces x y z = (x ∷ []) ∷ (y ∷ []) ∷ (z ∷ []) ∷ []

unfoldable pub three_text : (x y z : ℕ) → List ℕ
three_text x y z = joined (three_pieces x y z)

-- an annotation without a byte is absent
abbrev pub noted_text : (start len : ℕ) → List ℕ
noted_text a n = pick (eqb n 0) (three_text 0 0 0) (three_text 1 a n)

abbrev pub kept_row_pieces : (bid len start note : ℕ) → List (List ℕ)
kept_row_pieces b l a n = three_text b l 0 ∷ noted_text a n ∷ []

unfoldable pub kept_row_text : (bid len start note : ℕ) → List ℕ
kept_row_text b l a n = joined (kept_row_pieces b l a n)

-- the row of a call whose texts stand from `at` on, none where the call is dropped
unfoldable pub placed_row : (s notes : List ℕ) (at : ℕ) → PbnCall → List ℕ
placed_row s ns at c = pick (is_kept c) (kept_row_text at (length (bid_bytes c)) (at + length (bid_bytes c)) (length (note_bytes s ns c))) []

-- the rows of calls whose texts stand back to back from there on
unfoldable pub placed_rows : (s notes : List ℕ) (at : ℕ) → List PbnCall → List ℕ
placed_rows s ns at [] = []
placed_rows s ns at (c ∷ cs) = placed_row s ns at c ++ placed_rows s ns (at + length (pbn_call_bytes s ns c)) cs
