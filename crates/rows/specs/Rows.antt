-- Rows of calls as structs, and what filling and spilling answer and leave. (01: Records, "The calls stand in a list of rows lent by the caller:
-- bid span, alerted or not, annotation span or absent"; Eight refusals, 8 and 3)
use Rattle.std.specs.Prelude.{ℕ, ◌/◌, List, [], ◌∷◌, map, length, Err, Ok}
use Rattle.lin_spec.specs.Base.{any}
use Rattle.lin_spec.specs.Records.{span}
use Rattle.lin_spec.specs.Refusals.{Answer, refuse_if, unless}
use Rattle.lin_spec.specs.Output.{output_after}
use Rattle.lin_spec.specs.Board.{CallOf}
use Rattle.lin_spec.specs.Reading.{flag, annotation_words, call_words, too_few}
use Rattle.lin_spec.specs.Lent.{call_in, call_rows, row_of, bad_flag, Lent}
use Rattle.lin_spec.specs.declared.Span.{Span}
use Rattle.lin_spec.specs.declared.Call.{Call}
use Rattle.lin_spec.specs.declared.Board.{Board}
use Rattle.lin_spec.specs.declared.RowKind.TheVariants.{Calls}
use Rattle.lin_spec.specs.declared.Refusal.TheVariants.{OutOfRange}
use Rattle.rows.specs.declared.CallRow.{CallRow}

-- the call of a row, and the row of a call
abbrev pub called : CallRow → CallOf Span
called r = record { bid = r.bid; alerted = r.alerted; annotation = r.annotation }

abbrev pub row_in : CallOf Span → CallRow
row_in c = record { bid = c.bid; alerted = c.alerted; annotation = c.annotation }

-- the six numbers of a row
abbrev pub row_numbers : CallRow → Call
row_numbers r = row_of (called r)

-- a board that is lent with its calls in rows: a call is the six numbers of its row
abbrev pub lent_rows : (text : List ℕ) → Board → List CallRow → (cards : List ℕ) → Lent
lent_rows s b rs cs = record { text = s; board = b; calls = map row_numbers rs; cards = cs }

-- a row of no text: what a list is taken to hold past its end
abbrev pub empty_row : CallRow
empty_row = row_in (call_in (record { bid = span 0 0; alerted = 0; annotated = 0; annotation = span 0 0 }))

-- a list over another from the first on: "Rows and bytes not named by a success stay too."
unfoldable pub laid_over : {A : Type 0} → (new old : List A) → List A
laid_over [] ys = ys
laid_over (x ∷ xs) [] = []
laid_over (x ∷ xs) (y ∷ ys) = x ∷ laid_over xs ys

-- the six words of a row
abbrev pub struct_words : CallRow → List ℕ
struct_words r = r.bid.start ∷ r.bid.len ∷ flag r.alerted ∷ annotation_words r.annotation

-- what a call that moves rows answers, and the memory that it moves them into, afterwards
pub record Moving (A : Type 0) : Type 0 where
  pub answer : Answer ℕ
  pub after : List A

-- 3: "too few rows". Rows are spilled into words, six to a row: all of them, or none where there are too few places
abbrev pub spill_answer : (structs words : ℕ) → Answer ℕ
spill_answer n m = unless (too_few Calls (m / 6) n ∷ []) n

unfoldable pub spill_of : List CallRow → (words : List ℕ) → Moving ℕ
spill_of rs ws =
    let a = spill_answer (length rs) (length ws) in
    record { answer = a; after = output_after a ws (call_words (map called rs)) }

-- the rows that words give, six to a row; a rest is no row
abbrev pub structs_in : (words : List ℕ) → List CallRow
structs_in ws = map (λ c. row_in (call_in c)) (call_rows ws)

-- 8: "card, level or number outside its range", and 3. Rows are filled from words: all of them, or none where a flag is above 1 or there are too few
-- structs
abbrev pub fill_answer : (structs : ℕ) (words : List ℕ) → Answer ℕ
fill_answer n ws = unless (refuse_if (any bad_flag (call_rows ws)) OutOfRange ∷ too_few Calls n (length ws / 6) ∷ []) (length ws / 6)

-- "All lent memory stays. Rows and bytes not named by a success stay too."
abbrev pub rows_after : Answer ℕ → (new old : List CallRow) → List CallRow
rows_after (Err r) xs ys = ys
rows_after (Ok n) xs ys = laid_over xs ys

unfoldable pub fill_of : (words : List ℕ) → List CallRow → Moving CallRow
fill_of ws rs =
    let a = fill_answer (length rs) ws in
    record { answer = a; after = rows_after a (structs_in ws) rs }
