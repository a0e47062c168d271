-- The board cursor's answers as lin_spec's. (01: File)
use Rattle.lin_spec.specs.declared.Refusal.{Refusal}
use Rattle.std.specs.Prelude.{ℕ, ◌+◌, ◌≤◌, ◌<◌, ◌^◌, ◌≡◌, not, List, length, Err, None, Ok, Option, Result, Some}
use Rattle.lin_spec.specs.Base.{pick, ascii}
use Rattle.lin_spec.specs.Records.{limit}
use Rattle.lin_spec.specs.Refusals.{sat}
use Rattle.lin_spec.specs.Refusals.{Answer}
use Rattle.lin_spec.specs.File.{Section as Part, section, Standing, Visit, holds}
use Rattle.lin_spec.specs.Reading.{stream}
use Rattle.lin_spec.specs.File.Visit.{found, ended}
use Rattle.file_sections.specs.declared.sections.Section.{Section}
use Rattle.file_sections.specs.declared.sections.BoardCursor.{BoardCursor}
use Rattle.file_sections.specs.declared.sections.BoardStep.{BoardStep}

abbrev pub section_of : Section → Part
section_of p = section p.start p.stop p.board

abbrev pub standing_of : BoardCursor → Standing
standing_of c = record { at = c.at; number = c.number; lines = c.lines }

abbrev pub opened_of : Result BoardCursor Refusal → Answer Standing
opened_of (Ok c) = Ok (standing_of c)
opened_of (Err r) = Err r

-- a section with its number or none, and the cursor that is handed back
abbrev pub visit_by : Option (ℕ × Section) → Standing → Visit
visit_by (Some (n, p)) c = found n (section_of p) c
visit_by None c = ended c

abbrev pub visit_of : BoardStep → Visit
visit_of x = visit_by x.found (standing_of x.cursor)

-- a section that is given, with the cursor at a place after it
abbrev pub past : Standing → Part → (at : ℕ) → Visit
past c p at = found c.number p (record { at = at; number = pick p.board (sat (c.number + 1)) c.number; lines = c.lines })

-- a section within a text of 32-bit places
pub record Inside (s : List ℕ) (p : Section) : Type 0 where
  pub begins : p.start ≤ p.stop
  pub stops : p.stop ≤ length s
  pub short : length s < 2 ^ 32

-- where a cursor of a text begins
abbrev pub first_standing : List ℕ → Standing
first_standing s = record { at = 0; number = 0; lines = not (holds (ascii "qx") (stream s 0)) }

-- a cursor at the first section of a text within the limit
pub record AtFirst (s : List ℕ) (c : BoardCursor) : Type 0 where
  pub first : standing_of c ≡ first_standing s
  pub short : length s ≤ limit
