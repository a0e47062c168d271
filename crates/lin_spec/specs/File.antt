-- The boards of a file: its parts or its lines, and a board by its number. (01: File)
use Rattle.std.specs.Prelude.{ℕ, ◌+◌, ◌-◌, Bool, false, ◌||◌, not, List, [], ◌∷◌, map, length, take, drop, get_or, ltb, leb, Option, Err, Ok}
use Rattle.lin_spec.specs.Base.{pick, any, keep, null, ascii}
use Rattle.lin_spec.specs.Records.{end_of, part}
use Rattle.lin_spec.specs.White.{blank, is_command}
use Rattle.lin_spec.specs.Tokens.{Pieces, cut, TokenOf}
use Rattle.lin_spec.specs.Tokens.Pieces.{end, piece}
use Rattle.lin_spec.specs.Tokens.TokenOf.{token}
use Rattle.lin_spec.specs.Utf8.{utf8, longest}
use Rattle.lin_spec.specs.Refusals.{Answer, refuse_if, unless, too_long, not_utf8, sat}
use Rattle.lin_spec.specs.Board.{BoardOf, board_from}
use Rattle.lin_spec.specs.Fresh.{fresh_board}
use Rattle.lin_spec.specs.Reading.{span_text, stream, parse_lin, heading_of, headed, few_rows, Reading, stored}
use Rattle.lin_spec.specs.declared.Span.{Span}
use Rattle.lin_spec.specs.declared.Refusal.{Refusal}
use Rattle.lin_spec.specs.declared.Refusal.TheVariants.{NotUtf8, NoBoard}
use Rattle.lin_spec.specs.declared.Board.{Board}
use Rattle.lin_spec.specs.declared.Heading.{Heading}

-- a part of a file from one place up to another, and whether it is a board
pub record Section : Type 0 where
  pub start : ℕ
  pub stop : ℕ
  pub board : Bool

abbrev pub section : ℕ → ℕ → Bool → Section
section a e b = record { start = a; stop = e; board = b }

-- its tokens, and the board that they give
abbrev pub tokens_in : (s : List ℕ) (start stop : ℕ) → List (TokenOf Span)
tokens_in s a e = stream (take e s) a

unfoldable pub board_in : (s : List ℕ) → Section → BoardOf Span
board_in s p = board_from (span_text (take p.stop s)) (tokens_in s p.start p.stop)

-- a token has the command w, and some token has
abbrev pub has : {A : Type 0} → (w : List ℕ) → TokenOf A → Bool
has w (token c v) = is_command c w

abbrev pub holds : {A : Type 0} → (w : List ℕ) → List (TokenOf A) → Bool
holds w ts = any (has w) ts

-- "mn and pn tokens"
abbrev pub leads : (command : List ℕ) → Bool
leads c = is_command c (ascii "mn") || is_command c (ascii "pn")

-- "a part without an md token is no board"
abbrev pub part_at : (s : List ℕ) (start stop : ℕ) → Section
part_at s a e = section a e (holds (ascii "md") (tokens_in s a e))

-- "parts begin at token 0 and at each qx moved back over the mn and pn tokens directly before it, if past the last beginning": `begin` is the last
-- beginning, `back` the place to which a qx at `at` is moved back
unfoldable pub parts_from : (s : List ℕ) (begin back at : ℕ) → List (TokenOf Span) → List Section
parts_from s begin back at [] = part_at s begin at ∷ []
parts_from s begin back at (token c v ∷ ts) =
    let next = end_of v + 1 in
    pick (is_command c (ascii "qx"))
    (pick (ltb begin back) (part_at s begin back ∷ parts_from s back next next ts) (parts_from s begin next next ts))
    (parts_from s begin (pick (leads c) back next) next ts)

-- "each line (split at LF) that is not empty after trimming is a board, md or none"
unfoldable pub lines_from : (at : ℕ) → Pieces → List Section
lines_from at (end x) = section at (at + length x) (not (blank x)) ∷ []
lines_from at (piece x r) = section at (at + length x) (not (blank x)) ∷ lines_from (at + (length x + 1)) r

-- "With a qx token .. Otherwise .."
unfoldable pub sections : List ℕ → List Section
sections s = let ts = stream s 0 in pick (holds (ascii "qx") ts) (parts_from s 0 0 0 ts) (lines_from 0 (cut 0x0A s))

abbrev pub boards_of : List Section → List Section
boards_of ps = keep (λ (p : Section). p.board) ps

-- A board cursor stands at a place where a part or a line begins, and keeps the number of the next board.
pub record Standing : Type 0 where
  pub at : ℕ
  pub number : ℕ
  pub lines : Bool

-- a section with the number that it has if it is a board, and the cursor after it; or none, and the cursor as it was
pub data Visit : Type 0 where
  found : (number : ℕ) → Section → Standing → Visit
  ended : Standing → Visit

-- the lines, and the parts, that begin at a place and after it
unfoldable pub lines_at : (s : List ℕ) (at : ℕ) → List Section
lines_at s a = pick (ltb (length s) a) [] (lines_from a (cut 0x0A (drop a s)))

unfoldable pub parts_at : (s : List ℕ) (at : ℕ) → List Section
parts_at s a = pick (null (stream s a)) [] (parts_from s a a a (stream s a))

abbrev pub remaining : (s : List ℕ) → Standing → List Section
remaining s c = pick c.lines (lines_at s c.at) (parts_at s c.at)

-- the cursor after a section; the LF after a line is passed
abbrev pub after : Standing → Section → Standing
after c p = record { at = pick c.lines (p.stop + 1) p.stop; number = pick p.board (sat (c.number + 1)) c.number; lines = c.lines }

-- the first of some sections
abbrev pub first_of : Standing → List Section → Visit
first_of c [] = ended c
first_of c (p ∷ ps) = found c.number p (after c p)

-- a step over any bytes, from any place
unfoldable pub visit : (s : List ℕ) → Standing → Visit
visit s c = first_of c (remaining s c)

-- a step to the next board; sections that are none are passed
unfoldable pub next_board : (s : List ℕ) → Standing → Visit
next_board s c = first_of c (boards_of (remaining s c))

-- A step that reads the next board. It looks at the bytes from the cursor's place to the board's end, or to the text's end where there is none.
abbrev pub looked_at : (s : List ℕ) → Standing → Visit → List ℕ
looked_at s c (found n p d) = part s c.at (p.stop - c.at)
looked_at s c (ended d) = drop c.at s

-- 2 over the bytes from a place on: with the place, and the "length of the longest well-formed start"
abbrev pub not_utf8_from : (at : ℕ) (bytes : List ℕ) → Option Refusal
not_utf8_from a t = refuse_if (not (utf8 t)) (NotUtf8 (a + longest t))

-- 3 over the board, if there is one
abbrev pub few_in : (s : List ℕ) → Visit → (rows cards : List ℕ) → List (Option Refusal)
few_in s (found n p d) rows cards = few_rows (board_in s p) rows cards
few_in s (ended d) rows cards = []

-- the answer and the cursor handed back; the board with the numbers of its calls and cards; rows and cards afterwards
pub record ReadStep : Type 0 where
  pub answer : Answer Visit
  pub cursor : Standing
  pub board : Board
  pub calls : ℕ
  pub play : ℕ
  pub rows : List ℕ
  pub cards : List ℕ

-- without a board there is a fresh one, and nothing is stored
abbrev pub unread : Answer Visit → Standing → (rows cards : List ℕ) → ReadStep
unread a c rows cards = record { answer = a; cursor = c; board = fresh_board; calls = 0; play = 0; rows = rows; cards = cards }

-- a refusal hands the cursor back where it stood
abbrev pub read_by : (s : List ℕ) → Standing → Answer Visit → (rows cards : List ℕ) → ReadStep
read_by s c (Err r) rows cards = unread (Err r) c rows cards
read_by s c (Ok (ended d)) rows cards = unread (Ok (ended d)) d rows cards
read_by s c (Ok (found n p d)) rows cards =
    let h = heading_of (board_in s p) in
    let r = stored (Ok (board_in s p)) rows cards in
    record { answer = Ok (found n p d); cursor = d; board = h.board; calls = h.calls; play = h.cards; rows = r.rows; cards = r.cards }

-- "Reading: 1, 2, 4, 3."
unfoldable pub read_step : (s : List ℕ) → Standing → (rows cards : List ℕ) → ReadStep
read_step s c rows cards =
    let v = next_board s c in
    read_by s c (unless (too_long s ∷ not_utf8_from c.at (looked_at s c v) ∷ few_in s v rows cards) v) rows cards

-- opening one gives refusals 1 and 2; it then stands at the first byte
unfoldable pub open_boards : List ℕ → Answer Standing
open_boards s = unless (too_long s ∷ not_utf8 s ∷ []) (record { at = 0; number = 0; lines = not (holds (ascii "qx") (stream s 0)) })

-- `parse_lin_file`: the boards that a text means, and those of the answers. "Boards are numbered from 0."
unfoldable pub parse_lin_file : List ℕ → List (BoardOf (List ℕ))
parse_lin_file s = map (λ p. parse_lin (part s p.start (p.stop - p.start))) (boards_of (sections s))

unfoldable pub file_spans : List ℕ → List (BoardOf Span)
file_spans s = map (board_in s) (boards_of (sections s))

-- how many boards
unfoldable pub count_boards : List ℕ → Answer ℕ
count_boards s = unless (too_long s ∷ not_utf8 s ∷ []) (length (file_spans s))

-- 4: "no board of that number", with the "board count"
abbrev pub no_board : (number count : ℕ) → Option Refusal
no_board n count = refuse_if (leb count n) (NoBoard count)

-- the board of a number; of no board there is none, and 4 refuses the call
abbrev pub numbered : List ℕ → (number : ℕ) → BoardOf Span
numbered s n = get_or (file_spans s) n (board_in s (section 0 0 false))

unfoldable pub file_heading : (s : List ℕ) (number : ℕ) → Answer Heading
file_heading s n = headed (unless (too_long s ∷ not_utf8 s ∷ no_board n (length (file_spans s)) ∷ []) (numbered s n))

-- "Reading: 1, 2, 4, 3."
unfoldable pub file_board : (s : List ℕ) (number : ℕ) (rows cards : List ℕ) → Reading
file_board s n rows cards =
    let b = numbered s n in
    stored (unless (too_long s ∷ not_utf8 s ∷ no_board n (length (file_spans s)) ∷ few_rows b rows cards) b) rows cards
