-- The lines that the program linlist prints, and all that it prints for an input. (01: Program linlist)
use Rattle.std.specs.Prelude.{ℕ, ◌+◌, List, [], ◌∷◌, ◌++◌, length, ltb, Option, Err, Ok, None, Some}
use Rattle.lin_spec.specs.Base.{ascii, join_by}
use Rattle.lin_spec.specs.Decimal.{decimal}
use Rattle.lin_spec.specs.Letters.{seat_letter, sv_letter, hand_length}
use Rattle.lin_spec.specs.Refusals.{Answer, refuse_if, unless, number_of, not_utf8, too_small}
use Rattle.lin_spec.specs.Output.{Outcome, room, fill}
use Rattle.lin_spec.specs.Board.{BoardOf}
use Rattle.lin_spec.specs.Reading.{heading_of}
use Rattle.lin_spec.specs.File.{file_spans}
use Rattle.lin_spec.specs.declared.Seat.TheVariants.{South, West, North, East}
use Rattle.lin_spec.specs.declared.Span.{Span}
use Rattle.lin_spec.specs.declared.Refusal.{Refusal}
use Rattle.lin_spec.specs.declared.Refusal.TheVariants.{TextTooLong}
use Rattle.lin_spec.specs.declared.Heading.{Heading}

-- "Every line ends in LF."
unfoldable pub line : List ℕ → List ℕ
line s = s ++ ascii "\n"

-- "board dealer vul S W N E calls cards claim"
unfoldable pub header : List ℕ
header = line (ascii "board dealer vul S W N E calls cards claim")

-- "claim or `-`"
abbrev pub claim_word : Option ℕ → List ℕ
claim_word None = ascii "-"
claim_word (Some n) = decimal n

-- "being number, dealer letter, written sv letter, hand lengths, counts, claim or `-`"
unfoldable pub board_line : (number : ℕ) → Heading → List ℕ
board_line k h =
    let b = h.board in
    let d = b.deal.counts in
    line
    (join_by (ascii " ")
    (decimal k
    ∷ (seat_letter b.dealer ∷ [])
    ∷ (sv_letter b.vulnerability ∷ [])
    ∷ decimal (hand_length d South)
    ∷ decimal (hand_length d West)
    ∷ decimal (hand_length d North)
    ∷ decimal (hand_length d East)
    ∷ decimal h.calls
    ∷ decimal h.cards
    ∷ claim_word b.claim
    ∷ []))

-- "A refusal prints one line, `refused`, a space and its number"
unfoldable pub refusal_line : Refusal → List ℕ
refusal_line r = line (join_by (ascii " ") (ascii "refused" ∷ decimal (number_of r) ∷ []))

-- a heading's line: a board's, or where the heading was refused the refusal's
abbrev pub heading_line : (number : ℕ) → Answer Heading → List ℕ
heading_line k (Ok h) = board_line k h
heading_line k (Err r) = refusal_line r

-- a line as an entry's answer: refused by 7, or from the first byte of the output on
unfoldable pub write_line : (text out : List ℕ) → Outcome
write_line t o = fill (too_small (room o) (length t) ∷ []) o t

-- a line for each of the boards, the first of which has this number
unfoldable pub board_lines : (number : ℕ) → List (BoardOf Span) → List ℕ
board_lines k [] = []
board_lines k (b ∷ bs) = board_line k (heading_of b) ++ board_lines (k + 1) bs

-- "Program linlist reads standard input, at most 65,536 bytes."
abbrev pub list_limit : ℕ
list_limit = 65536

-- "over 65,536 bytes is refusal 1"
abbrev pub over_limit : List ℕ → Option Refusal
over_limit s = refuse_if (ltb list_limit (length s)) TextTooLong

-- "A refusal prints one line, .. alone"; else it is the header and the boards, "numbered from 0"
abbrev pub printed : Answer (List (BoardOf Span)) → List ℕ
printed (Err r) = refusal_line r
printed (Ok bs) = header ++ board_lines 0 bs

-- what linlist prints for an input
unfoldable pub listing : (input : List ℕ) → List ℕ
listing s = printed (unless (over_limit s ∷ not_utf8 s ∷ []) (file_spans s))
