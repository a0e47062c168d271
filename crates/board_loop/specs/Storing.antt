-- A board that is stored while its tokens are read. (01: Board; Records, "The calls stand in a list of rows ..")
use Rattle.std.specs.Prelude.{ℕ, ◌-◌, ◌*◌, ◌≤◌, ◌<◌, ◌^◌, ◌≡◌, List, [], ◌∷◌, length, eqb}
use Rattle.lin_spec.specs.Base.{pick}
use Rattle.lin_spec.specs.Output.{overlay}
use Rattle.lin_spec.specs.Board.{call_of}
use Rattle.lin_spec.specs.Reading.{span_text, stream, call_words}
use Rattle.lin_spec.specs.declared.Span.{Span}
use Rattle.output.specs.Put.{joined}
use Rattle.lin_spec.specs.Lent.{row_of}
use Rattle.board_loop.specs.Calls.{row_words}
use Rattle.board_loop.specs.Head.{board_at, fresh_head, Leaves}
use Rattle.board_loop.specs.declared.heading.ReadHead.{ReadHead}

-- the row of an mb value
abbrev pub bid_words : (s : List ℕ) → Span → List ℕ
bid_words s v = row_words (row_of (call_of (span_text s) v))

-- the last three words of a call that has an annotation
abbrev pub note_pieces : Span → List (List ℕ)
note_pieces v = (1 ∷ []) ∷ (v.start ∷ []) ∷ (v.len ∷ []) ∷ []

unfoldable pub note_words : Span → List ℕ
note_words v = joined (note_pieces v)

-- i rows with an annotation in the last of them, if there is one
abbrev pub noted : (rows : List ℕ) (i : ℕ) → Span → List ℕ
noted rows i v = pick (eqb i 0) rows (overlay rows (i * 6 - 3) (note_words v))

-- the board's calls and cards have places
pub record Fits (s : List ℕ) (at : ℕ) (rows cards : List ℕ) : Type 0 where
  pub within : at ≤ length s
  pub short : length s < 2 ^ 32
  pub calls : length (call_words (board_at s at).calls) ≤ length rows
  pub play : length (board_at s at).play ≤ length cards

-- h is the heading, and rows and cards hold the board's calls and cards
pub record Stored (s : List ℕ) (at : ℕ) (rows₀ cards₀ : List ℕ) (h : ReadHead) (rows cards : List ℕ) : Type 0 where
  pub leaves : Leaves s (stream s at) h fresh_head []
  pub calls : rows ≡ overlay rows₀ 0 (call_words (board_at s at).calls)
  pub play : cards ≡ overlay cards₀ 0 (board_at s at).play
