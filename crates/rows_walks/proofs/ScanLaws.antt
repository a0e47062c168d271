-- Laws of rows that are looked at: a call by its parts, one row at a time, and what is found in all of them. (01: Eight refusals, 5 to 7)
-- Assumes nothing.
use Prim.Native.Nat.{ℕ, zero, suc, ◌+◌, ◌≤◌, ◌<◌}
use native.Mathlib.Nat.{zero-add, le_of_suc-le-suc}
use native.Mathlib.Omega.{arith}
use mathlib.Core.Path.{◌≡◌, refl, ap, sym, ◌∙◌}
use mathlib.Core.Bool.{Bool, true, false, ◌||◌, or_assoc, or-false}
use mathlib.Core.List.{List, [], ◌∷◌, map}
use lib.ListN.{length, drop, get_or, length-append}
use Rattle.lin_spec.specs.Writer.{pipe_mark, line_mark}
use Rattle.lin_spec.specs.Base.{pick, any}
use Rattle.lin_spec.specs.Refusals.{passes_end, sat}
use Rattle.lin_spec.specs.declared.Call.{Call}
use Rattle.board_lent.specs.Calls.{spans_of_call}
use Rattle.board_lent.specs.Checks.{amiss}
use Rattle.rows.specs.declared.CallRow.{CallRow}
use Rattle.rows.specs.Rows.{empty_row, row_numbers}
use Rattle.rows_walks.specs.declared.Scan.{Scan}
use Rattle.rows_walks.specs.Walks.{row_bytes, rows_bytes, looked_at_call, measured, scan_row, scanned}
use Rattle.rows_walks.proofs.PutLaws.{rows_cons, rows_none, rows-long-same}

-- One row

module _ (s : List ℕ) (r : CallRow) (z : Scan) (c : Call) (e : c ≡ row_numbers r) (y : Scan) where
  pub row_looked : z.look ≡ true → y ≡ looked_at_call s c z → y ≡ scan_row s r z
  unfolding scan_row
  row_looked h f = f ∙ ap (λ (x : Call). looked_at_call s x z) e ∙ simp h

  pub row-measured : z.look ≡ false → y ≡ measured s c z → y ≡ scan_row s r z
  unfolding scan_row
  row-measured h f = f ∙ ap (λ (x : Call). measured s x z) e ∙ simp h

-- what it leaves
pub row_blocks : (s : List ℕ) (r : CallRow) (z : Scan) → (scan_row s r z).blocks ≡ z.blocks
unfolding scan_row
row_blocks s r z = go z.look
  where
    go : (t : Bool) → (pick t (looked_at_call s (row_numbers r) z) (measured s (row_numbers r) z)).blocks ≡ z.blocks
    go true = refl
    go false = refl

-- All rows, from row i on

pub scan_step : (s : List ℕ) (rs : List CallRow) (i : ℕ) (z : Scan) → i < length rs → scanned s (drop i rs) z ≡ scanned s (drop (i + 1) rs) (scan_row s (get_or rs i empty_row) z)
unfolding scanned
scan_step s [] i z h = absurd (let x : ⊥ = omega arith in x)
scan_step s (r ∷ rs) zero z h = refl
scan_step s (r ∷ rs) (suc i) z h =
    scan_step s rs i z (le_of_suc-le-suc h)
    ∙ ap (λ (k : ℕ). scanned s (drop k (r ∷ rs)) (scan_row s (get_or rs i empty_row) z)) (let x : suc (i + 1) ≡ suc i + 1 = omega arith in x)

pub scan_end : (s : List ℕ) (rs : List CallRow) (i : ℕ) (z : Scan) → length rs ≤ i → scanned s (drop i rs) z ≡ z
unfolding scanned
scan_end s [] zero z h = refl
scan_end s [] (suc i) z h = refl
scan_end s (r ∷ rs) zero z h = absurd (let x : ⊥ = omega arith in x)
scan_end s (r ∷ rs) (suc i) z h = scan_end s rs i z (le_of_suc-le-suc h)

-- What is found in all rows

module _ (s : List ℕ) where
  -- where the bytes are looked at
  look_step : (r : CallRow) (z : Scan) → z.look ≡ true → scan_row s r z ≡ looked_at_call s (row_numbers r) z
  unfolding scan_row
  look_step r z e = ap (λ (t : Bool). pick t (looked_at_call s (row_numbers r) z) (measured s (row_numbers r) z)) e

  pub look-past : (rs : List CallRow) (z : Scan) → z.look ≡ true → (scanned s rs z).past ≡ z.past
  unfolding scanned
  look-past [] z e = refl
  look-past (r ∷ rs) z e = ap (λ (y : Scan). (scanned s rs y).past) (look_step r z e) ∙ look-past rs (looked_at_call s (row_numbers r) z) e

  pub look-need : (rs : List CallRow) (z : Scan) → z.look ≡ true → (scanned s rs z).need ≡ z.need
  unfolding scanned
  look-need [] z e = refl
  look-need (r ∷ rs) z e = ap (λ (y : Scan). (scanned s rs y).need) (look_step r z e) ∙ look-need rs (looked_at_call s (row_numbers r) z) e

  pub look-ill : (rs : List CallRow) (z : Scan) → z.look ≡ true → (scanned s rs z).ill ≡ (z.ill || any (λ c. any (amiss s) (spans_of_call c)) (map row_numbers rs))
  unfolding scanned any
  look-ill [] z e = sym (or-false z.ill)
  look-ill (r ∷ rs) z e =
      ap (λ (y : Scan). (scanned s rs y).ill) (look_step r z e)
      ∙ look-ill rs (looked_at_call s (row_numbers r) z) e
      ∙ or_assoc z.ill (any (amiss s) (spans_of_call (row_numbers r))) (any (λ c. any (amiss s) (spans_of_call c)) (map row_numbers rs))

  -- where the numbers are
  measure_step : (r : CallRow) (z : Scan) → z.look ≡ false → scan_row s r z ≡ measured s (row_numbers r) z
  unfolding scan_row
  measure_step r z e = ap (λ (t : Bool). pick t (looked_at_call s (row_numbers r) z) (measured s (row_numbers r) z)) e

  pub measure_past : (rs : List CallRow) (z : Scan) → z.look ≡ false → (scanned s rs z).past ≡ (z.past || any (λ c. any (passes_end s) (spans_of_call c)) (map row_numbers rs))
  unfolding scanned any
  measure_past [] z e = sym (or-false z.past)
  measure_past (r ∷ rs) z e =
      ap (λ (y : Scan). (scanned s rs y).past) (measure_step r z e)
      ∙ measure_past rs (measured s (row_numbers r) z) e
      ∙ or_assoc z.past (any (passes_end s) (spans_of_call (row_numbers r))) (any (λ c. any (passes_end s) (spans_of_call c)) (map row_numbers rs))

  pub measure_need : (rs : List CallRow) (z : Scan) (m : ℕ) → z.look ≡ false → z.need ≡ sat m → (scanned s rs z).need ≡ sat (m + length (rows_bytes pipe_mark line_mark s rs))
  unfolding scanned
  measure_need [] z m e f = f ∙ none m
    where
      none : (n : ℕ) → sat n ≡ sat (n + length (rows_bytes pipe_mark line_mark s []))
      none n = let k : length (rows_bytes pipe_mark line_mark s []) ≡ 0 = ap length (rows_none pipe_mark line_mark s) in omega (arith, k)
  measure_need (r ∷ rs) z m e f =
      let a = length (row_bytes pipe_mark line_mark s r) in
      let b = length (rows_bytes pipe_mark line_mark s rs) in
      let g : (measured s (row_numbers r) z).need ≡ sat (m + a) = omega (arith, f) in
      let h : length (rows_bytes pipe_mark line_mark s (r ∷ rs)) ≡ a + b = ap length (rows_cons pipe_mark line_mark s r rs) ∙ length-append (row_bytes pipe_mark line_mark s r) (rows_bytes pipe_mark line_mark s rs) in
      ap (λ (y : Scan). (scanned s rs y).need) (measure_step r z e)
      ∙ measure_need rs (measured s (row_numbers r) z) (m + a) e g
      ∙ omega (arith, h)

-- A scan that has found nothing yet

module _ (s : List ℕ) (rs : List CallRow) (z : Scan) where
  pub found-past : z.look ≡ false → z.past ≡ false → (scanned s rs z).past ≡ any (λ c. any (passes_end s) (spans_of_call c)) (map row_numbers rs)
  found-past e f = measure_past s rs z e ∙ ap (λ (t : Bool). t || any (λ c. any (passes_end s) (spans_of_call c)) (map row_numbers rs)) f

  pub found-ill : z.look ≡ true → z.ill ≡ false → (scanned s rs z).ill ≡ any (λ c. any (amiss s) (spans_of_call c)) (map row_numbers rs)
  found-ill e f = look-ill s rs z e ∙ ap (λ (t : Bool). t || any (λ c. any (amiss s) (spans_of_call c)) (map row_numbers rs)) f

  -- whatever the marks of cleaning
  pub found-need : z.look ≡ false → z.need ≡ 0 → (p q : ℕ) → (scanned s rs z).need ≡ sat (length (rows_bytes p q s rs))
  found-need e f p q =
      measure_need s rs z 0 e f
      ∙ ap sat (zero-add (length (rows_bytes pipe_mark line_mark s rs)) ∙ rows-long-same pipe_mark line_mark p q s rs)
