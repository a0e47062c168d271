-- Which answer an entry that writes one line gives, by the test that it made. (01: Eight refusals, 7)
-- Assumes nothing.
use Rattle.std.specs.Prelude.{Err, Ok}
use Prim.Native.Nat.{ℕ, ◌+◌, ◌≤◌, ◌<◌}
use native.Mathlib.Omega.{arith}
use mathlib.Core.Path.{◌≡◌}
use mathlib.Core.List.{List}
use lib.ListN.{length}
use borrow.Author.Tests.{lt-ltb, le-ltb}
use Rattle.lin_spec.specs.Refusals.{unless, sat}
use Rattle.lin_spec.specs.Output.{Outcome, room, fill}
use Rattle.lin_spec.specs.Listing.{write_line}
use Rattle.lin_spec.specs.declared.Refusal.TheVariants.{OutputTooSmall}
use Rattle.output.specs.Put.{Room, Put}

module _ (t o : List ℕ) (need : ℕ) (en : need ≡ sat (length t)) (r : ℕ) (er : r ≡ room o) where
  pub line_small : r < need → ◌≡◌ {A = Outcome} (record { answer = Err (OutputTooSmall need); output = o }) (write_line t o)
  unfolding write_line fill unless
  line_small h =
      let z : room o < length t = omega arith in
      simp (lt-ltb (room o) (length t) z, ← en)

  pub line-fits : need ≤ r → Room o 0 t
  line-fits h = record { room = omega arith }

  pub line-done : need ≤ r → {o' : List ℕ} {n : ℕ} → Put o 0 t o' n → ◌≡◌ {A = Outcome} (record { answer = Ok n; output = o' }) (write_line t o)
  unfolding write_line fill unless
  line-done h p =
      let z : length t ≤ room o = omega arith in
      let e : 0 + length t ≡ length t = omega arith in
      simp (le-ltb (room o) (length t) z, p.next, p.text, e)
