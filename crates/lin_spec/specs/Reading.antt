-- One board from a text: the entries of `parse_lin`. (01: Board, `parse_lin`; Records, "The calls stand in a list of rows ..")
use Rattle.std.specs.Prelude.{ℕ, ◌+◌, ◌/◌, Bool, true, false, List, [], ◌∷◌, ◌++◌, length, drop, ltb, Option, None, Some, Err, Ok}
use Rattle.lin_spec.specs.Records.{span, part, bytes_at}
use Rattle.lin_spec.specs.Tokens.{Pieces, cut, pipe, TokenOf, tokens}
use Rattle.lin_spec.specs.Tokens.Pieces.{end, piece}
use Rattle.lin_spec.specs.Tokens.TokenOf.{token}
use Rattle.lin_spec.specs.Refusals.{Answer, refuse_if, unless, too_long, not_utf8}
use Rattle.lin_spec.specs.Output.{overlay}
use Rattle.lin_spec.specs.Board.{CallOf, BoardOf, Text, board_from}
use Rattle.lin_spec.specs.declared.Span.{Span}
use Rattle.lin_spec.specs.declared.RowKind.{RowKind}
use Rattle.lin_spec.specs.declared.RowKind.TheVariants.{Calls, Cards}
use Rattle.lin_spec.specs.declared.Refusal.{Refusal}
use Rattle.lin_spec.specs.declared.Refusal.TheVariants.{TooFewRows}
use Rattle.lin_spec.specs.declared.Heading.{Heading}

-- texts as bytes, for what a board means; and as spans into s, for what an entry answers
abbrev pub bytes_text : Text (List ℕ)
bytes_text = record { bytes = λ v. v; within = part; nil = [] }

abbrev pub span_text : (s : List ℕ) → Text Span
span_text s = record { bytes = bytes_at s; within = λ x k n. span (x.start + k) n; nil = span 0 0 }

-- the tokens of a text that is cut so, the first at `at`, with each value as a span
unfoldable pub placed : (at : ℕ) → Pieces → List (TokenOf Span)
placed at (end x) = []
placed at (piece x (end y)) = []
placed at (piece x (piece y r)) =
    let v = at + (length x + 1) in
    token x (span v (length y)) ∷ placed (v + (length y + 1)) r

-- the tokens of s from the place `at` on
unfoldable pub stream : (s : List ℕ) (at : ℕ) → List (TokenOf Span)
stream s at = placed at (cut pipe (drop at s))

-- `parse_lin`: the board that a text means, and its answer
unfoldable pub parse_lin : List ℕ → BoardOf (List ℕ)
parse_lin s = board_from bytes_text (tokens s)

unfoldable pub parse_spans : List ℕ → BoardOf Span
parse_spans s = board_from (span_text s) (stream s 0)

-- "A heading call gives everything but rows, with the numbers of calls and cards."
abbrev pub heading_of : BoardOf Span → Heading
heading_of b =
    record {
      board =
          record {
            names = b.names;
            dealer = b.dealt.dealer;
            deal = record { counts = b.dealt.deal };
            vulnerability = b.vulnerability;
            title = b.title;
            room_board = b.room;
            board_header = b.header;
            claim = b.claim;
          };
      calls = length b.calls;
      cards = length b.play;
    }

abbrev pub headed : Answer (BoardOf Span) → Answer Heading
headed (Err r) = Err r
headed (Ok b) = Ok (heading_of b)

unfoldable pub read_heading : List ℕ → Answer Heading
read_heading s = headed (unless (too_long s ∷ not_utf8 s ∷ []) (parse_spans s))

-- a call row as six words: bid start and length, alerted, annotated, annotation start and length
abbrev pub flag : Bool → ℕ
flag true = 1
flag false = 0

abbrev pub annotation_words : Option Span → List ℕ
annotation_words None = 0 ∷ 0 ∷ 0 ∷ []
annotation_words (Some x) = 1 ∷ x.start ∷ x.len ∷ []

unfoldable pub call_words : List (CallOf Span) → List ℕ
call_words [] = []
call_words (c ∷ cs) = c.bid.start ∷ c.bid.len ∷ flag c.alerted ∷ (annotation_words c.annotation ++ call_words cs)

-- 3: "too few rows, calls before cards", with "calls or cards, and rows needed of that kind"
abbrev pub too_few : (kind : RowKind) (rows needed : ℕ) → Option Refusal
too_few k rows needed = refuse_if (ltb rows needed) (TooFewRows k needed)

abbrev pub few_rows : BoardOf Span → (rows cards : List ℕ) → List (Option Refusal)
few_rows b rows cards = too_few Calls (length rows / 6) (length b.calls) ∷ too_few Cards (length cards) (length b.play) ∷ []

-- the heading or the refusal, and the rows and cards afterwards
pub record Reading : Type 0 where
  pub heading : Answer Heading
  pub rows : List ℕ
  pub cards : List ℕ

-- "All lent memory stays. Rows and bytes not named by a success stay too."
abbrev pub stored : Answer (BoardOf Span) → (rows cards : List ℕ) → Reading
stored (Err r) rows cards = record { heading = Err r; rows = rows; cards = cards }
stored (Ok b) rows cards = record { heading = Ok (heading_of b); rows = overlay rows 0 (call_words b.calls); cards = overlay cards 0 b.play }

unfoldable pub read_board : (s rows cards : List ℕ) → Reading
read_board s rows cards =
    let b = parse_spans s in
    stored (unless (too_long s ∷ not_utf8 s ∷ few_rows b rows cards) b) rows cards
