-- Counts and boards by number, as the code gives them. (01: File)
use Rattle.std.specs.Prelude.{ℕ, ◌<◌, ◌≤◌, ◌≡◌, false, List, length, get_or, Ok, Err}
use Rattle.lin_spec.specs.Refusals.{Answer}
use Rattle.lin_spec.specs.File.{section, sections, boards_of}
use Rattle.file_sections.specs.Sections.{section_of, Inside}
use Rattle.file_sections.specs.declared.sections.Section.{Section}
use Rattle.lin_spec.specs.declared.Refusal.TheVariants.{NoBoard}

abbrev pub Counts : List ℕ → ℕ → Type 0
Counts s n = n ≡ length (boards_of (sections s))

-- the board of the number n is the section p
pub record NumberedBoard (s : List ℕ) (n : ℕ) (p : Section) : Type 0 where
  pub some : n < length (boards_of (sections s))
  pub is : get_or (boards_of (sections s)) n (section 0 0 false) ≡ section_of p
  pub inside : Inside s p

-- or there is none, and refusal 4 tells how many boards there are
abbrev pub Numbers : List ℕ → ℕ → Answer Section → Type 0
Numbers s n (Ok p) = NumberedBoard s n p
Numbers s n (Err r) = (r ≡ NoBoard (length (boards_of (sections s)))) × (length (boards_of (sections s)) ≤ n)
