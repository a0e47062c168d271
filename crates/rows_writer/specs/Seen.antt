-- What two scans of lent rows find: first their places and their lengths, then their bytes. (01: Eight refusals, 5 to 7)
use Rattle.std.specs.Prelude.{ℕ, ◌≤◌, ◌≡◌, true, false, List, map, length, take}
use Rattle.lin_spec.specs.Writer.{pipe_mark, line_mark}
use Rattle.lin_spec.specs.Base.{any}
use Rattle.lin_spec.specs.Records.{limit}
use Rattle.lin_spec.specs.Refusals.{passes_end, sat}
use Rattle.board_lent.specs.Calls.{spans_of_call}
use Rattle.board_lent.specs.Checks.{amiss}
use Rattle.rows.specs.declared.CallRow.{CallRow}
use Rattle.rows.specs.Rows.{row_numbers}
use Rattle.rows_walks.specs.declared.Scan.{Scan}
use Rattle.text.specs.Index.{Indexed}
use Rattle.rows_walks.specs.Walks.{rows_bytes}

-- a scan of places and lengths that has found nothing yet
abbrev pub measuring_scan : Scan
measuring_scan = record { look = false; blocks = 0; past = false; ill = false; spans = 0; need = 0 }

-- z looks at the bytes of the rows that y has measured, by an index of the text s in the words next: no word, or as many as it says. A text that is too
-- long is not looked at
pub record Looks (s : List ℕ) (y z : Scan) (next : List ℕ) : Type 0 where
  pub index : Indexed s (take z.blocks next)
  pub look : length s ≤ limit → z.look ≡ true
  pub past : z.past ≡ y.past
  pub ill : z.ill ≡ false
  pub need : z.need ≡ y.need

-- whether 5 meets a text of a call, whether 5 or 6 does, and how many bytes the calls are written with
pub record Found (s : List ℕ) (rs : List CallRow) (z : Scan) : Type 0 where
  pub past : z.past ≡ any (λ c. any (passes_end s) (spans_of_call c)) (map row_numbers rs)
  pub ill : z.ill ≡ any (λ c. any (amiss s) (spans_of_call c)) (map row_numbers rs)
  pub need : z.need ≡ sat (length (rows_bytes pipe_mark line_mark s rs))

-- of a text that is too long nothing is said
abbrev pub Seen : (s : List ℕ) → List CallRow → Scan → Type 0
Seen s rs z = length s ≤ limit → Found s rs z
