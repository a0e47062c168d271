-- What the walks of the finder over a file's sections go by, and what they give. (01: names; 02: N3)
use Rattle.lin_spec.specs.declared.Refusal.TheVariants.{OutputTooSmall}
use Rattle.std.specs.Prelude.{Ok, Err}
use Rattle.std.specs.Prelude.{ℕ, ◌+◌, ◌≤◌, ◌<◌, ◌≡◌, true, ◌&&◌, List, [], ◌∷◌, length}
use Rattle.lin_spec.specs.Base.{pick, All, count_if}
use Rattle.lin_spec.specs.Records.{bytes_at}
use Rattle.lin_spec.specs.Utf8.{utf8}
use Rattle.lin_spec.specs.Refusals.{Answer, unless, too_small}
use Rattle.lin_spec.specs.Board.{BoardOf}
use Rattle.lin_spec.specs.File.{board_in, file_spans}
use Rattle.lin_spec.specs.declared.Span.{Span}
use Rattle.accents.specs.Table.{mapping_table}
use Rattle.accents.specs.Lines.{table_words}
use Rattle.accents.specs.Names.{places}
use Rattle.accents_names.specs.Work.{Laid}
use Rattle.accents_names.specs.declared.names.Sought.{Sought}
use Rattle.file_sections.specs.Sections.{section_of}
use Rattle.file_sections.specs.declared.sections.Section.{Section}
use Rattle.file_finder.specs.Finder.{has_name, greatest, places_in, most_places, places_needed, WorkAfter}

-- Measuring

-- r is the most places that a name of the section takes, 0 if it is no board
abbrev pub MostIn : (s : List ℕ) → Section → ℕ → Type 0
MostIn s p r = r ≡ pick p.board (greatest (places_in s (board_in s (section_of p)))) 0

-- what is told of a room, for a name that takes n places: it is enough, or refusal 7 with how many are needed
abbrev pub RoomIs : (s : List ℕ) (n room : ℕ) → Answer Unit → Type 0
RoomIs s n room (Ok tt) = n + most_places s ≤ room
RoomIs s n room (Err r) = (r ≡ OutputTooSmall (n + most_places s)) × (room < n + most_places s)

-- Comparing

-- the name at x can be compared with the name that is looked for, in n places: it is UTF-8, and the mapped characters of both fit
abbrev pub NameFits : (s name : List ℕ) (n : ℕ) → Span → Type 0
NameFits s name n x = (utf8 (bytes_at s x) ≡ true) × (places name + places (bytes_at s x) ≤ n)

-- so can each name of a board
abbrev pub BoardFits : (s name : List ℕ) (n : ℕ) → BoardOf Span → Type 0
BoardFits s name n b = All (NameFits s name n) b.names

-- what stays on the way: the copy of the table, and the name that is looked for, which stands in the work space o
pub record Looking (w name : List ℕ) (k : Sought) (o : List ℕ) : Type 0 where
  pub copied : w ≡ table_words mapping_table
  pub well : utf8 name ≡ true
  pub laid : Laid name k o

-- 1 for a section that is a board and has the name, else 0
abbrev pub FoundIn : (s name : List ℕ) → Section → ℕ → Type 0
FoundIn s name p r = r ≡ pick (p.board && has_name s name (board_in s (section_of p))) 1 0

-- what is left to promise of a call that 1 and 2 do not meet
pub record FindsChecked (s name w : List ℕ) (a : Answer ℕ) (v : List ℕ) : Type 0 where
  pub answer : a ≡ unless (too_small (length w) (places_needed s name) ∷ []) (count_if (has_name s name) (file_spans s))
  pub work : WorkAfter a w v
