-- The lines as the pieces that are put, and their lengths. (01: Program linlist)
-- Assumes nothing.
use Prim.Native.Nat.{ℕ, ◌+◌}
use native.Mathlib.Omega.{arith}
use mathlib.Core.Path.{◌≡◌, refl, ap, ◌∙◌}
use mathlib.Core.List.{List, ◌∷◌, ◌++◌, append_assoc, append-nil}
use lib.ListN.{length, length-append}
use Rattle.lin_spec.specs.Base.{ascii, join_by}
use Rattle.lin_spec.specs.Decimal.{decimal}
use Rattle.lin_spec.specs.Letters.{seat_letter, sv_letter, hand_length}
use Rattle.lin_spec.specs.Refusals.{number_of, sat}
use Rattle.lin_spec.specs.Listing.{line, header, claim_word, board_line, refusal_line}
use Rattle.lin_spec.specs.declared.Seat.{Seat}
use Rattle.lin_spec.specs.declared.Seat.TheVariants.{South, West, North, East}
use Rattle.lin_spec.specs.declared.Vulnerability.{Vulnerability}
use Rattle.lin_spec.specs.declared.Refusal.{Refusal}
use Rattle.lin_spec.specs.declared.Heading.{Heading}
use Rattle.output.specs.Put.{joined}
use Rattle.listing_lines.specs.Pieces.{letters_text, field_text, lengths_text, line_pieces, refusal_pieces}

-- The lines as pieces

pub header_is : header ≡ ascii "board dealer vul S W N E calls cards claim\n"
unfolding header line
header_is = refl

field_then : (n : ℕ) (r : List ℕ) → field_text n ++ r ≡ ascii " " ++ (decimal n ++ r)
unfolding field_text
field_then n r = simp append-nil

letters_then : (x : Seat) (v : Vulnerability) (r : List ℕ) → letters_text x v ++ r ≡ ascii " " ++ (seat_letter x ∷ (ascii " " ++ (sv_letter v ∷ r)))
unfolding letters_text
letters_then x v r = refl

lengths_then : (d r : List ℕ)
    → lengths_text d ++ r ≡ field_text (hand_length d South) ++ (field_text (hand_length d West) ++ (field_text (hand_length d North) ++ (field_text (hand_length d East) ++ r)))
unfolding lengths_text
lengths_then d r = simp (append_assoc, append-nil)

pub board-is : (k : ℕ) (h : Heading) → board_line k h ≡ joined (line_pieces k h)
unfolding board_line line join_by
board-is k h = simp (append_assoc, letters_then, lengths_then, field_then)

pub refusal_is : (r : Refusal) → refusal_line r ≡ joined (refusal_pieces r)
unfolding refusal_line line join_by
refusal_is r = simp (append_assoc, append-nil)

-- Their lengths

pub header-long : 43 ≡ sat (length header)
unfolding header line
header-long = refl

pub field-long : (n : ℕ) → length (field_text n) ≡ 1 + length (decimal n)
unfolding field_text
field-long n = simp append-nil (omega arith)

pub lengths_long : (d : List ℕ)
    → length (lengths_text d) ≡ length (field_text (hand_length d South)) + length (field_text (hand_length d West)) + length (field_text (hand_length d North)) + length (field_text (hand_length d East))
unfolding lengths_text
lengths_long d = simp (length-append, append-nil) (omega arith)

letters_long : (x : Seat) (v : Vulnerability) → length (letters_text x v) ≡ 4
unfolding letters_text
letters_long x v = refl

pub board-long : (k : ℕ) (h : Heading)
    → length (board_line k h)
    ≡ length (decimal k) + 4 + length (lengths_text h.board.deal.counts) + length (field_text h.calls) + length (field_text h.cards)
    + (length (claim_word h.board.claim) + 2)
board-long k h = ap length (board-is k h) ∙ simp (length-append, letters_long) (omega arith)

pub refusal_long : (r : Refusal) → length (refusal_line r) ≡ length (decimal (number_of r)) + 9
refusal_long r = ap length (refusal_is r) ∙ simp length-append (omega arith)
