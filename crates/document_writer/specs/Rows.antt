-- A row of a document as the four words that give it, its text as pieces, and what the writer's steps hand on. (01: Tokens)
use Rattle.std.specs.Prelude.{ℕ, ◌+◌, ◌-◌, ◌≤◌, ◌≡◌, false, List, [], ◌∷◌, ◌++◌, length, drop, get_or}
use Rattle.lin_spec.specs.Base.{pick, any, ascii}
use Rattle.lin_spec.specs.Records.{limit, span, part, bytes_at}
use Rattle.lin_spec.specs.Refusals.{Answer, unless, sat, passes_end, ill_span, past_end, span_not_utf8}
use Rattle.lin_spec.specs.Document.{Row as RowAt, rows_in, spans_of, document_text}
use Rattle.lin_spec.specs.declared.Span.{Span}
use Rattle.output.specs.Put.{joined}
use Rattle.document_writer.specs.declared.documents.Row.{Row}
use Rattle.document_writer.specs.declared.documents.Run.{Run}

-- the row of the four words from i on
abbrev pub document_row_at : (ws : List ℕ) (i : ℕ) → RowAt
document_row_at ws i = record { command = span (get_or ws i 0) (get_or ws (i + 1) 0); value = span (get_or ws (i + 2) 0) (get_or ws (i + 3) 0) }

abbrev pub document_row : RowAt → Row
document_row r = record { command = r.command; value = r.value }

abbrev pub token_pieces : (s : List ℕ) → Row → List (List ℕ)
token_pieces s r = bytes_at s r.command ∷ ascii "|" ∷ bytes_at s r.value ∷ ascii "|" ∷ []

unfoldable pub token_text : (s : List ℕ) → Row → List ℕ
token_text s r = joined (token_pieces s r)

-- r is the place after a row that stands in s from the place `at` on, with its pipes; it is `at` where the row does not
pub record Stands (s : List ℕ) (at : ℕ) (row : Row) (r : ℕ) : Type 0 where
  pub order : at ≤ r
  pub text : (r ≡ at → ⊥) → token_text s row ≡ part s at (r - at)

-- the text of the rows of a run from the word i on
unfoldable pub run_text : (s ws : List ℕ) (i : ℕ) → Run → List ℕ
run_text s ws i r = pick r.stands (part s (get_or ws i 0) r.len) (token_text s (document_row (document_row_at ws i)))

-- r is a run of rows from the word i on
pub record RunAt (s ws : List ℕ) (i : ℕ) (r : Run) : Type 0 where
  pub some : 4 ≤ r.words
  pub within : i + r.words ≤ length ws
  pub text : (tr : Span) → document_text s (drop i ws) tr ≡ run_text s ws i r ++ document_text s (drop (i + r.words) ws) tr

-- what 5 and 6 say of a document, and how many bytes it has
unfoldable pub looked : (s ws : List ℕ) → Span → Answer ℕ
looked s ws tr = unless (past_end s (spans_of (rows_in ws) tr) ∷ span_not_utf8 s (spans_of (rows_in ws) tr) ∷ []) (sat (length (document_text s ws tr)))

-- 1, 5 and 6 do not meet a document that has n bytes
pub record Lawful (s ws : List ℕ) (tr : Span) (n : ℕ) : Type 0 where
  pub short : length s ≤ limit
  pub within : any (passes_end s) (spans_of (rows_in ws) tr) ≡ false
  pub well : any (ill_span s) (spans_of (rows_in ws) tr) ≡ false
  pub long : n ≡ sat (length (document_text s ws tr))
