-- The calls that are lent a board as numbers. (01: Writer; equality)
use Rattle.std.specs.Prelude.{ℕ, Bool, ◌||◌, List, Err, Ok}
use Rattle.lin_spec.specs.Refusals.{Answer}
use Rattle.lin_spec.specs.Reading.{flag}
use Rattle.lin_spec.specs.Lent.{Lent, lent}
use Rattle.lin_spec.specs.Append.{plain, appended}
use Rattle.lin_spec.specs.Equality.{same_boards}
use Rattle.lin_host_numbers.specs.Answers.{numbers_of, Outcome, outcome_numbers}
use Rattle.lin_host_numbers.specs.Codes.{coded_board, bad_codes}
use Rattle.lin_host_numbers.specs.declared.answers.LinAnswer.{LinAnswer}
use Rattle.lin_host_numbers.specs.declared.boards.LinBoard.{LinBoard}

abbrev pub lent_numbers : (text : List ℕ) → LinBoard → (words cards : List ℕ) → Lent
lent_numbers s b ws cs = lent s (coded_board b) ws cs

-- append, and `write_lin`, which is an append after no used byte
abbrev pub append_numbers : (text : List ℕ) → LinBoard → (words cards o : List ℕ) (used : ℕ) → Outcome
append_numbers s b ws cs o used = outcome_numbers (appended (bad_codes b) (plain (lent_numbers s b ws cs)) o used)

-- equality: 1 for equal boards, 0 for others, or the refusal
abbrev pub equality_numbers : Answer Bool → LinAnswer
equality_numbers (Ok t) = numbers_of (Ok (flag t))
equality_numbers (Err r) = numbers_of (Err r)

abbrev pub same_numbers : (text : List ℕ) → LinBoard → (words cards : List ℕ) (text2 : List ℕ) → LinBoard → (words2 cards2 : List ℕ) → LinAnswer
same_numbers s b ws cs s2 b2 ws2 cs2 = equality_numbers (same_boards (bad_codes b || bad_codes b2) (lent_numbers s b ws cs) (lent_numbers s2 b2 ws2 cs2))
