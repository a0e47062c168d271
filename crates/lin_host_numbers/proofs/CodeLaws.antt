-- Boards as numbers, there and back; and what a code outside its range leaves of a call. (01: Records; Eight refusals, 8)
-- Assumes nothing.
use Rattle.std.specs.Prelude.{Option, None, Some}
use Prim.Native.Nat.{ℕ, ◌≤◌}
use native.Mathlib.Omega.{arith}
use mathlib.Core.Path.{◌≡◌, refl}
use mathlib.Core.Bool.{false}
use mathlib.Core.List.{List, [], ◌∷◌}
use lib.ListN.{length, get_or}
use lib.Dec.{ltb}
use borrow.Author.Tests.{le-ltb}
use Rattle.lin_spec.specs.Records.{span}
use Rattle.lin_spec.specs.Letters.{seat_number}
use Rattle.lin_spec.specs.declared.Span.{Span}
use Rattle.lin_spec.specs.declared.Seat.{Seat}
use Rattle.lin_spec.specs.declared.Seat.TheVariants.{South, West, North, East}
use Rattle.lin_spec.specs.declared.Vulnerability.{Vulnerability}
use Rattle.lin_spec.specs.declared.Vulnerability.TheVariants.{NorthSouth, EastWest, Both}
use Rattle.lin_spec.specs.declared.Board.{Board}
use Rattle.lin_host_numbers.specs.Boards.{vulnerability_number, place_numbers, text_numbers, claim_flag, claim_number, board_numbers}
use Rattle.lin_host_numbers.specs.Codes.{vulnerability_of, word_spans, text_of, coded_claim, coded_board, bad_given, bad_codes}
use Rattle.lin_spec.specs.Board.{Present as Holds}
use Rattle.lin_spec.proofs.Seats.{seat_back}

-- the spans of eight words

pub eight : (ws : List ℕ) → length ws ≡ 8
    → span (get_or ws 0 0) (get_or ws 1 0) ∷ span (get_or ws 2 0) (get_or ws 3 0) ∷ span (get_or ws 4 0) (get_or ws 5 0) ∷ span (get_or ws 6 0) (get_or ws 7 0) ∷ [] ≡ word_spans ws
unfolding word_spans
eight [] h = absurd (omega arith)
eight (a ∷ []) h = absurd (omega arith)
eight (a ∷ b ∷ []) h = absurd (omega arith)
eight (a ∷ b ∷ c ∷ []) h = absurd (omega arith)
eight (a ∷ b ∷ c ∷ d ∷ []) h = absurd (omega arith)
eight (a ∷ b ∷ c ∷ d ∷ e ∷ []) h = absurd (omega arith)
eight (a ∷ b ∷ c ∷ d ∷ e ∷ f ∷ []) h = absurd (omega arith)
eight (a ∷ b ∷ c ∷ d ∷ e ∷ f ∷ g ∷ []) h = absurd (omega arith)
eight (a ∷ b ∷ c ∷ d ∷ e ∷ f ∷ g ∷ i ∷ []) h = refl
eight (a ∷ b ∷ c ∷ d ∷ e ∷ f ∷ g ∷ i ∷ x ∷ ws) h = absurd (omega arith)

-- There and back: a board that a reading gives can be lent again

vulnerability_back : (v : Vulnerability) → vulnerability_of (vulnerability_number v) ≡ v
vulnerability_back Vulnerability.None = refl
vulnerability_back NorthSouth = refl
vulnerability_back EastWest = refl
vulnerability_back Both = refl

spans_back : (xs : List Span) → word_spans (place_numbers xs) ≡ xs
unfolding word_spans place_numbers
spans_back [] = refl
spans_back (x ∷ xs) = rw (spans_back xs)

text_back : (x : Option Span) → text_of (text_numbers x) ≡ x
text_back None = refl
text_back (Some x) = refl

claim_back : (c : Option ℕ) → Holds (λ (n : ℕ). n ≤ 255) c → coded_claim (claim_flag c) (claim_number c) ≡ c
claim_back None h = refl
claim_back (Some n) h = simp (le-ltb 255 n h)

pub board_back : (b : Board) → Holds (λ (n : ℕ). n ≤ 255) b.claim → coded_board (board_numbers b) ≡ b
unfolding coded_board board_numbers
board_back b h =
    rw (spans_back b.names, seat_back b.dealer, vulnerability_back b.vulnerability, text_back b.title, text_back b.room_board, text_back b.board_header, claim_back b.claim h)

seat_good : (x : Seat) → ltb 3 (seat_number x) ≡ false
seat_good South = refl
seat_good West = refl
seat_good North = refl
seat_good East = refl

vulnerability_good : (v : Vulnerability) → ltb 3 (vulnerability_number v) ≡ false
vulnerability_good Vulnerability.None = refl
vulnerability_good NorthSouth = refl
vulnerability_good EastWest = refl
vulnerability_good Both = refl

text_good : (x : Option Span) → ltb 1 (text_numbers x).present ≡ false
text_good None = refl
text_good (Some x) = refl

claim_good : (c : Option ℕ) → Holds (λ (n : ℕ). n ≤ 255) c → bad_given (claim_flag c) (claim_number c) 255 ≡ false
claim_good None h = refl
claim_good (Some n) h = simp (le-ltb 255 n h)

pub codes_good : (b : Board) → Holds (λ (n : ℕ). n ≤ 255) b.claim → bad_codes (board_numbers b) ≡ false
unfolding bad_codes board_numbers
codes_good b h =
    rw (seat_good b.dealer, vulnerability_good b.vulnerability, text_good b.title, text_good b.room_board, text_good b.board_header, claim_good b.claim h)
