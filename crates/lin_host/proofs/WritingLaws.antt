-- Calls that are lent a board as numbers: what the exports compute, and what a code outside its range leaves of a call. (01: Writer; equality)
-- Assumes nothing.
use Rattle.std.specs.Prelude.{Option, Some, Err}
use Prim.Native.Nat.{ℕ}
use mathlib.Core.Path.{◌≡◌, refl, ap}
use mathlib.Core.Bool.{Bool, true, false, ◌||◌}
use mathlib.Core.List.{List, ◌∷◌}
use lib.ListN.{length}
use lib.Dec.{ltb}
use Rattle.lin_spec.specs.Base.{pick}
use Rattle.lin_spec.specs.Records.{limit}
use Rattle.lin_spec.specs.Refusals.{Answer, refuse_if, unless}
use Rattle.lin_spec.specs.Output.{Outcome}
use Rattle.lin_spec.specs.Lent.{Lent, lent, lent_checks}
use Rattle.lin_spec.specs.Append.{Filing, plain, written_form, extended, appended, append}
use Rattle.lin_spec.specs.Equality.{same_boards, same_board}
use Rattle.lin_spec.specs.declared.Refusal.{Refusal}
use Rattle.lin_spec.specs.declared.Refusal.TheVariants.{TextTooLong, OutOfRange}
use Rattle.board_lent.specs.declared.heads.Head.{Head}
use Rattle.board_lent.specs.Heads.{head_of, board_of as with_deal}
use Rattle.lin_host_numbers.specs.Answers.{outcome_numbers}
use Rattle.lin_host_numbers.specs.Codes.{coded_board, bad_codes}
use Rattle.lin_host.specs.Writing.{lent_numbers, append_numbers, equality_numbers, same_numbers}
use Rattle.lin_host_numbers.specs.declared.boards.LinBoard.{LinBoard}

-- the board of the numbers is what it is without its deal, and the counts
whole : (b : LinBoard) {h : Head} → h ≡ head_of (coded_board b) → with_deal h b.counts ≡ coded_board b
unfolding coded_board
whole b e = ap (λ (h : Head). with_deal h b.counts) e

-- the answer for a board and a test that are those of the numbers
pub appending : (s : List ℕ) (b : LinBoard) (ws cs o : List ℕ) (used : ℕ) {t : Bool} {h : Head} → t ≡ bad_codes b → h ≡ head_of (coded_board b)
    → outcome_numbers (appended t (plain (lent s (with_deal h b.counts) ws cs)) o used) ≡ append_numbers s b ws cs o used
appending s b ws cs o used e f = let z = whole b f in rw (e, z)

pub comparing : (s : List ℕ) (b : LinBoard) (ws cs : List ℕ) (s2 : List ℕ) (b2 : LinBoard) (ws2 cs2 : List ℕ) {t : Bool} {x y : Head}
    → t ≡ (bad_codes b || bad_codes b2) → x ≡ head_of (coded_board b) → y ≡ head_of (coded_board b2)
    → equality_numbers (same_boards t (lent s (with_deal x b.counts) ws cs) (lent s2 (with_deal y b2.counts) ws2 cs2)) ≡ same_numbers s b ws cs s2 b2 ws2 cs2
comparing s b ws cs s2 b2 ws2 cs2 e f g = let z = whole b f in let w = whole b2 g in rw (e, z, w)

-- With codes in their ranges the exports are the entries

pub append-plain : (s : List ℕ) (b : LinBoard) (ws cs o : List ℕ) (used : ℕ) → bad_codes b ≡ false
    → append_numbers s b ws cs o used ≡ outcome_numbers (append (lent_numbers s b ws cs) o used)
append-plain s b ws cs o used e = rw e

pub same-plain : (s : List ℕ) (b : LinBoard) (ws cs : List ℕ) (s2 : List ℕ) (b2 : LinBoard) (ws2 cs2 : List ℕ) → bad_codes b ≡ false → bad_codes b2 ≡ false
    → same_numbers s b ws cs s2 b2 ws2 cs2 ≡ equality_numbers (same_board (lent_numbers s b ws cs) (lent_numbers s2 b2 ws2 cs2))
same-plain s b ws cs s2 b2 ws2 cs2 e f = rw (e, f)

-- A call with a code outside its range is refused by 1 or 8, whatever else it is lent: no answer shows what coded_board makes of such a code

pub second : {A : Type 0} (t : Bool) (q r : Refusal) (cs : List (Option Refusal)) (a : A) → unless (refuse_if t q ∷ Some r ∷ cs) a ≡ Err (pick t q r)
unfolding unless
second true q r cs a = refl
second false q r cs a = refl

third : {A : Type 0} (t u : Bool) (q r : Refusal) (cs : List (Option Refusal)) (a : A) → unless (refuse_if t q ∷ refuse_if u q ∷ Some r ∷ cs) a ≡ Err (pick (t || u) q r)
unfolding unless
third true u q r cs a = refl
third false true q r cs a = refl
third false false q r cs a = refl

pub append-refused : (f : Filing) (o : List ℕ) (used : ℕ)
    → appended true f o used ≡ record { answer = Err (pick (ltb limit (length f.lent.text)) TextTooLong OutOfRange); output = o }
unfolding appended lent_checks
append-refused f o used =
    ap after (second (ltb limit (length f.lent.text)) TextTooLong OutOfRange _ _)
  where
    after : Answer ℕ → Outcome
    after a = record { answer = a; output = extended a o used (written_form f) }

pub same-refused : (x y : Lent) → same_boards true x y ≡ Err (pick (ltb limit (length x.text) || ltb limit (length y.text)) TextTooLong OutOfRange)
unfolding same_boards
same-refused x y = third (ltb limit (length x.text)) (ltb limit (length y.text)) TextTooLong OutOfRange _ _
