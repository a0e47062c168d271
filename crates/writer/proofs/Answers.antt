-- Which answer an entry that writes a board gives, by the tests that it made. (01: Writer; Eight refusals)
-- Assumes nothing.
use Rattle.std.specs.Prelude.{Err, Ok, Result}
use Prim.Native.Nat.{ℕ, ◌+◌, ◌-◌, ◌≤◌, ◌<◌}
use native.Mathlib.Omega.{arith}
use mathlib.Core.Path.{◌≡◌, ap, sym, ◌∙◌}
use mathlib.Core.Bool.{Bool, false, ◌||◌}
use mathlib.Core.List.{List}
use lib.ListN.{length}
use lib.Dec.{ltb}
use borrow.Author.Tests.{lt-ltb, le-ltb, ltb-false}
use Rattle.lin_spec.specs.Base.{any}
use Rattle.lin_spec.specs.Refusals.{Answer, unless, sat}
use Rattle.lin_spec.specs.Output.{Outcome, room}
use Rattle.lin_spec.specs.Lent.{lent, call_rows, bad_flag, bad_cards}
use Rattle.lin_spec.specs.Append.{Filing, written_form, extended, appended}
use Rattle.lin_spec.specs.declared.Refusal.{Refusal}
use Rattle.lin_spec.specs.declared.Refusal.TheVariants.{OutputTooSmall}
use Rattle.lin_spec.specs.declared.Board.{Board}
use Rattle.lin_spec.proofs.Base.{or_none}
use Rattle.output.specs.Put.{Room, Put}
use Rattle.board_lent.specs.Checks.{checked}
use Rattle.board_lent.proofs.LentLaws.{number_is, check_refuses, check_passes, check_passed}
use Rattle.writer_texts.specs.declared.texts.Marks.{Marks}
use Rattle.writer.specs.Filing.{filing, fitted}

-- once the checks before 7 are passed
module _ (f : Filing) (o : List ℕ) (used : ℕ) (h : used ≤ room o) (need : ℕ) (en : need ≡ sat (length (written_form f))) (r : ℕ) (er : r ≡ room o) where
  pub fit_small : r - used < need → ◌≡◌ {A = Outcome} (record { answer = Err (OutputTooSmall need); output = o }) (fitted f o used)
  unfolding fitted unless
  fit_small k =
      let z : room o < used + length (written_form f) = omega arith in
      simp (lt-ltb (room o) (used + length (written_form f)) z, ← en)

  pub fit-room : need ≤ r - used → Room o used (written_form f)
  fit-room k = record { room = omega arith }

  pub fit-done : need ≤ r - used → {o' : List ℕ} {n : ℕ} → Put o used (written_form f) o' n → ◌≡◌ {A = Outcome} (record { answer = Ok n; output = o' }) (fitted f o used)
  unfolding fitted unless
  fit-done k p =
      let z : used + length (written_form f) ≤ room o = omega arith in
      simp (le-ltb (room o) (used + length (written_form f)) z, p.next, p.text)

-- by the verdict of those checks
module _ (other : Bool) (m : Marks) (s : List ℕ) (b : Board) (ws cs o : List ℕ) (used r : ℕ) (er : r ≡ room o) (v : Result Unit Refusal) (e : v ≡ checked (other || ltb r used) (lent s b ws cs)) where
  verdict-is : v ≡ checked (other || ltb (room o) used) (lent s b ws cs)
  verdict-is = e ∙ ap (λ (n : ℕ). checked (other || ltb n used) (lent s b ws cs)) er

  -- an answer, and the output after it
  abbrev after : Answer ℕ → Outcome
  after a = record { answer = a; output = extended a o used (written_form (filing m s b ws cs)) }

  pub append-refused : (x : Refusal) → v ≡ Err x → ◌≡◌ {A = Outcome} (record { answer = Err x; output = o }) (appended other (filing m s b ws cs) o used)
  unfolding appended
  append-refused x k = sym (ap after (check_refuses (other || ltb (room o) used) (lent s b ws cs) v verdict-is _ _ x k))

  pub append-passed : v ≡ (Ok tt) → fitted (filing m s b ws cs) o used ≡ appended other (filing m s b ws cs) o used
  unfolding appended fitted
  append-passed k = sym (ap after (check_passes (other || ltb (room o) used) (lent s b ws cs) v verdict-is _ _ k))

  -- what the puts then rest on
  pub append-may : v ≡ (Ok tt) → (used ≤ room o) × (bad_cards cs ≡ false)
  append-may k =
      let p = check_passed (other || ltb (room o) used) (lent s b ws cs) v verdict-is k in
      let a = or_none other (ltb (room o) used) p.others in
      let d = or_none (bad_cards cs) (any bad_flag (call_rows ws)) (sym (number_is s b ws cs) ∙ p.numbers) in
      (ltb-false (room o) used a.1, d.0)
