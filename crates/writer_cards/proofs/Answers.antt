-- Which answer `format_cardplay_by_trick` gives, by the tests that it made. (01: Eight refusals, 8 and 7)
-- Assumes nothing.
use Rattle.std.specs.Prelude.{Err, Ok}
use Prim.Native.Nat.{ℕ, ◌+◌, ◌≤◌, ◌<◌}
use native.Mathlib.Omega.{arith}
use mathlib.Core.Path.{◌≡◌, sym, ◌∙◌}
use mathlib.Core.Bool.{Bool, true, false}
use mathlib.Core.List.{List}
use lib.ListN.{length}
use borrow.Author.Tests.{lt-ltb, le-ltb}
use Rattle.lin_spec.specs.Refusals.{unless, sat}
use Rattle.lin_spec.specs.Output.{Outcome, room, fill}
use Rattle.lin_spec.specs.Lent.{bad_cards}
use Rattle.lin_spec.specs.Play.{play_text, format_cardplay}
use Rattle.lin_spec.specs.declared.Refusal.TheVariants.{OutOfRange, OutputTooSmall}
use Rattle.output.specs.Put.{Room, Put}

module _ (cs o : List ℕ) (t : Bool) (et : t ≡ bad_cards cs) where
  pub play-range : t ≡ true → ◌≡◌ {A = Outcome} (record { answer = Err OutOfRange; output = o }) (format_cardplay cs o)
  unfolding format_cardplay fill unless
  play-range h = simp (← et, h)

  module _ (h : t ≡ false) (need : ℕ) (en : need ≡ sat (length (play_text cs))) (r : ℕ) (er : r ≡ room o) where
    pub play-small : r < need → ◌≡◌ {A = Outcome} (record { answer = Err (OutputTooSmall need); output = o }) (format_cardplay cs o)
    unfolding format_cardplay fill unless
    play-small k =
        let z : room o < length (play_text cs) = omega arith in
        simp (← et, h, lt-ltb (room o) (length (play_text cs)) z, ← en)

    pub play-fits : need ≤ r → Room o 0 (play_text cs) × (bad_cards cs ≡ false)
    play-fits k = (record { room = omega arith }, sym et ∙ h)

    pub play-done : need ≤ r → {o' : List ℕ} {n : ℕ} → Put o 0 (play_text cs) o' n
        → ◌≡◌ {A = Outcome} (record { answer = Ok n; output = o' }) (format_cardplay cs o)
    unfolding format_cardplay fill unless
    play-done k p =
        let z : length (play_text cs) ≤ room o = omega arith in
        let e : 0 + length (play_text cs) ≡ length (play_text cs) = omega arith in
        simp (← et, h, le-ltb (room o) (length (play_text cs)) z, p.next, p.text, e)
