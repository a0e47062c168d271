-- The entries that write a board: `write_lin`, and append. (01: Writer and settled form)
use Rattle.std.specs.Prelude.{ℕ, ◌+◌, Bool, false, ◌||◌, List, [], ◌∷◌, ◌++◌, length, ltb, Option, Err, Ok}
use Rattle.lin_spec.specs.Refusals.{Answer, refuse_if, unless, sat}
use Rattle.lin_spec.specs.Output.{overlay, room, Outcome}
use Rattle.lin_spec.specs.Board.{BoardOf}
use Rattle.lin_spec.specs.Writer.{written, settled, pipe_mark, line_mark}
use Rattle.lin_spec.specs.Lent.{Lent, meaning, lent_checks}
use Rattle.lin_spec.specs.declared.Refusal.{Refusal}
use Rattle.lin_spec.specs.declared.Refusal.TheVariants.{OutputTooSmall}

-- a board to be written, and the bytes that clean puts for a pipe and for CR and LF
pub record Filing : Type 0 where
  pub p : ℕ
  pub q : ℕ
  pub lent : Lent

-- "pipe to `/`, CR and LF each to a space"
abbrev pub plain : Lent → Filing
plain x = record { p = pipe_mark; q = line_mark; lent = x }

-- its written form and its settled form
unfoldable pub written_form : Filing → List ℕ
written_form f = written f.p f.q (meaning f.lent)

unfoldable pub settled_form : Filing → BoardOf (List ℕ)
settled_form f = settled f.p f.q (meaning f.lent)

-- "bytes this call would write": 7 where they and the used bytes pass the room
abbrev pub too_small_after : (room used need : ℕ) → Option Refusal
too_small_after room used need = refuse_if (ltb room (used + need)) (OutputTooSmall (sat need))

-- the output after an answer to write s after the used bytes: a refusal leaves it
abbrev pub extended : Answer ℕ → (o : List ℕ) (used : ℕ) (s : List ℕ) → List ℕ
extended (Err r) o used s = o
extended (Ok n) o used s = overlay o used s

-- "An append call adds one board after the used bytes and returns the new used count." 8: "or used bytes beyond the room"; `other` as in lent_checks
unfoldable pub appended : (other : Bool) → Filing → (o : List ℕ) (used : ℕ) → Outcome
appended other f o used =
    let s = written_form f in
    let a = unless (lent_checks (other || ltb (room o) used) f.lent ++ (too_small_after (room o) used (length s) ∷ [])) (used + length s) in
    record { answer = a; output = extended a o used s }

abbrev pub append : Lent → (o : List ℕ) (used : ℕ) → Outcome
append x o used = appended false (plain x) o used

-- "the others are filled from the first byte and give the length": `write_lin` is an append after no used byte
abbrev pub write_lin : Lent → (o : List ℕ) → Outcome
write_lin x o = append x o 0
