-- The line of a section: a board's, or none. (01: Program linlist; File)
use Rattle.std.specs.Prelude.{ℕ, List, []}
use Rattle.lin_spec.specs.Base.{pick}
use Rattle.lin_spec.specs.Reading.{heading_of}
use Rattle.lin_spec.specs.File.{Section, board_in}
use Rattle.lin_spec.specs.Listing.{board_line}

abbrev pub section_line : (s : List ℕ) (number : ℕ) → Section → List ℕ
section_line s k p = pick p.board (board_line k (heading_of (board_in s p))) []
