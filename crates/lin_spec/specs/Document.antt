-- The entries on tokens: opening a cursor, and writing a document. (01: Tokens)
use Rattle.std.specs.Prelude.{ℕ, List, [], ◌∷◌, map, length}
use Rattle.lin_spec.specs.Records.{span, bytes_at}
use Rattle.lin_spec.specs.Tokens.{Token, write}
use Rattle.lin_spec.specs.Tokens.TokenOf.{token}
use Rattle.lin_spec.specs.Refusals.{Answer, unless, too_long, not_utf8, past_end, span_not_utf8, too_small}
use Rattle.lin_spec.specs.Output.{Outcome, room, fill}
use Rattle.lin_spec.specs.declared.Span.{Span}

-- "Opening a cursor gives refusals 1 and 2"; it then stands at the first byte
unfoldable pub open_text : List ℕ → Answer ℕ
open_text s = unless (too_long s ∷ not_utf8 s ∷ []) 0

-- "a lent list of rows, a command and a value span each": four words to a row, and a rest is no row
pub record Row : Type 0 where
  pub command : Span
  pub value : Span

unfoldable pub rows_in : (words : List ℕ) → List Row
rows_in (a ∷ m ∷ b ∷ n ∷ ws) = record { command = span a m; value = span b n } ∷ rows_in ws
rows_in (a ∷ m ∷ b ∷ []) = []
rows_in (a ∷ m ∷ []) = []
rows_in (a ∷ []) = []
rows_in [] = []

-- the spans that a document names, in order
unfoldable pub spans_of : List Row → (trailing : Span) → List Span
spans_of [] tr = tr ∷ []
spans_of (r ∷ rs) tr = r.command ∷ r.value ∷ spans_of rs tr

-- a row's token: "into one text, compared by bytes"
abbrev pub token_at : List ℕ → Row → Token
token_at s r = token (bytes_at s r.command) (bytes_at s r.value)

-- the bytes of a document
unfoldable pub document_text : (text words : List ℕ) (trailing : Span) → List ℕ
document_text s ws tr = write (map (token_at s) (rows_in ws)) (bytes_at s tr)

-- the document writer, with refusals 1, 5, 6 and 7
unfoldable pub write_document : (text words : List ℕ) (trailing : Span) (out : List ℕ) → Outcome
write_document s ws tr o =
    let xs = spans_of (rows_in ws) tr in
    let t = document_text s ws tr in
    fill (too_long s ∷ past_end s xs ∷ span_not_utf8 s xs ∷ too_small (room o) (length t) ∷ []) o t
