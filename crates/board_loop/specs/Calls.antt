-- The calls of a run of tokens one at a time, as the code gives them. (01: Board, mb and an)
use Rattle.document.specs.declared.tokens.Cursor.{Cursor}
use Rattle.std.specs.Prelude.{ℕ, ◌≤◌, ◌≡◌, List, [], ◌∷◌, length, Option, None, Some}
use Rattle.lin_spec.specs.Base.{pick, ascii}
use Rattle.lin_spec.specs.Records.{end_of}
use Rattle.lin_spec.specs.White.{is_command}
use Rattle.lin_spec.specs.Tokens.{TokenOf}
use Rattle.lin_spec.specs.Tokens.TokenOf.{token}
use Rattle.lin_spec.specs.Board.{CallOf, call_of}
use Rattle.lin_spec.specs.Reading.{span_text, stream}
use Rattle.lin_spec.specs.Lent.{row_of}
use Rattle.lin_spec.specs.declared.Span.{Span}
use Rattle.lin_spec.specs.declared.Call.{Call}
use Rattle.board_loop.specs.declared.calls.Note.{Note}
use Rattle.output.specs.Put.{joined}

-- the words of a call that is six numbers
abbrev pub row_pieces : Call → List (List ℕ)
row_pieces c =
    (c.bid.start ∷ []) ∷ (c.bid.len ∷ []) ∷ (c.alerted ∷ []) ∷ (c.annotated ∷ []) ∷ (c.annotation.start ∷ []) ∷ (c.annotation.len ∷ []) ∷ []

unfoldable pub row_words : Call → List ℕ
row_words c = joined (row_pieces c)

-- a call with its annotation
abbrev pub with : CallOf Span → Option Span → CallOf Span
with c a = record { bid = c.bid; alerted = c.alerted; annotation = a }

-- the calls of tokens that follow the call c, which was annotated by a last; and where there is no call before them
unfoldable pub calls_after : (s : List ℕ) → CallOf Span → Option Span → List (TokenOf Span) → List (CallOf Span)
calls_after s c a [] = with c a ∷ []
calls_after s c a (token w v ∷ ts) =
    pick (is_command w (ascii "mb")) (with c a ∷ calls_after s (call_of (span_text s) v) None ts)
    (calls_after s c (pick (is_command w (ascii "an")) (Some v) a) ts)

unfoldable pub calls_from : (s : List ℕ) → List (TokenOf Span) → List (CallOf Span)
calls_from s [] = []
calls_from s (token w v ∷ ts) = pick (is_command w (ascii "mb")) (calls_after s (call_of (span_text s) v) None ts) (calls_from s ts)

-- What the parts of the code give, from the place `at` on

abbrev pub Bids : (s : List ℕ) (at : ℕ) → Option (Span × Cursor) → Type 0
Bids s at (Some (v, c)) = (calls_from s (stream s at) ≡ calls_after s (call_of (span_text s) v) None (stream s c.at)) × (end_of v ≤ length s)
Bids s at None = calls_from s (stream s at) ≡ []

abbrev pub Notes : (s : List ℕ) (at : ℕ) → Note → Type 0
Notes s at n = (c : CallOf Span) → calls_after s c None (stream s at) ≡ with c n.annotation ∷ calls_from s (stream s n.cursor.at)

pub record CallAt (s : List ℕ) (at : ℕ) (r : Call) (n : ℕ) : Type 0 where
  pub call : CallOf Span
  pub row : r ≡ row_of call
  pub front : calls_from s (stream s at) ≡ call ∷ calls_from s (stream s n)

abbrev pub GivesCall : (s : List ℕ) (at : ℕ) → Option (Call × Cursor) → Type 0
GivesCall s at (Some (r, c)) = CallAt s at r c.at
GivesCall s at None = calls_from s (stream s at) ≡ []
