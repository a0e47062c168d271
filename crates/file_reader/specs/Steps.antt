-- A step that reads, as lin_spec's, and what its parts ask. (01: File)
use Rattle.std.specs.Prelude.{ℕ, ◌≡◌, List, [], ◌∷◌, drop, Option, None, Some, Err, Ok}
use Rattle.lin_spec.specs.Refusals.{Answer, unless}
use Rattle.lin_spec.specs.Fresh.{fresh_board}
use Rattle.lin_spec.specs.File.{Standing, Visit, ReadStep, not_utf8_from}
use Rattle.lin_spec.specs.File.Visit.{found, ended}
use Rattle.lin_spec.specs.declared.Refusal.{Refusal}
use Rattle.lin_spec.specs.declared.Heading.{Heading}
use Rattle.file_sections.specs.Sections.{section_of, standing_of}
use Rattle.file_sections.specs.declared.sections.BoardCursor.{BoardCursor}
use Rattle.file_reader.specs.declared.steps.ReadBoard.{ReadBoard}
use Rattle.file_reader.specs.declared.steps.BoardRead.{BoardRead}

-- one check, by its answer
abbrev pub check_of : Answer Unit → Option Refusal
check_of (Ok tt) = None
check_of (Err r) = Some r

-- a step's answer, with the cursor that it hands back
abbrev pub next_of : Answer (Option ReadBoard) → Standing → Answer Visit
next_of (Ok (Some b)) c = Ok (found b.number (section_of b.section) c)
next_of (Ok None) c = Ok (ended c)
next_of (Err r) c = Err r

-- the board that was read, with the numbers of its calls and cards; without one a fresh board, and none
abbrev pub no_heading : Heading
no_heading = record { board = fresh_board; calls = 0; cards = 0 }

abbrev pub heading_in : Answer (Option ReadBoard) → Heading
heading_in (Ok (Some b)) = b.heading
heading_in (Ok None) = no_heading
heading_in (Err r) = no_heading

abbrev pub read_of : BoardRead → (rows cards : List ℕ) → ReadStep
read_of r rows cards =
    let h = heading_in r.board in
    let c = standing_of r.cursor in
    record { answer = next_of r.board c; cursor = c; board = h.board; calls = h.calls; play = h.cards; rows = rows; cards = cards }

-- a section that was found, read or refused: c is the cursor where it stood, d the one after it
abbrev pub read_as : (c d : BoardCursor) → Answer ReadBoard → BoardRead
read_as c d (Ok b) = record { board = Ok (Some b); cursor = d }
read_as c d (Err r) = record { board = Err r; cursor = c }

-- no board, or 2 over the bytes from a place on
pub record NoneLeft (s : List ℕ) (at : ℕ) (r : Answer (Option ReadBoard)) : Type 0 where
  pub answer : (c : Standing) → next_of r c ≡ unless (not_utf8_from at (drop at s) ∷ []) (ended c)
  pub heading : heading_in r ≡ no_heading
