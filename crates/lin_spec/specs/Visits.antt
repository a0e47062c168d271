-- The first section from a place on, as a step of the board cursor finds it: the line there, and the part by the place where it ends.
-- `visit-is` of the laws of files says that a step gives just these. (01: File)
use Rattle.std.specs.Prelude.{ℕ, ◌+◌, not, List, [], ◌∷◌, length, drop, ltb}
use Rattle.lin_spec.specs.Base.{pick, ascii}
use Rattle.lin_spec.specs.Records.{end_of}
use Rattle.lin_spec.specs.White.{blank, is_command}
use Rattle.lin_spec.specs.Tokens.{cut, TokenOf}
use Rattle.lin_spec.specs.Tokens.TokenOf.{token}
use Rattle.lin_spec.specs.Cards.{field}
use Rattle.lin_spec.specs.Reading.{stream}
use Rattle.lin_spec.specs.File.{Section, section, leads, part_at}
use Rattle.lin_spec.specs.declared.Span.{Span}

abbrev pub line_at : (s : List ℕ) (at : ℕ) → Section
line_at s at = let x = field 0 (cut 0x0A (drop at s)) in section at (at + length x) (not (blank x))

-- where the part ends that began at `begin`, if a qx at `at` is moved back to `back`
unfoldable pub part_end : (begin back at : ℕ) → List (TokenOf Span) → ℕ
part_end begin back at [] = at
part_end begin back at (token c v ∷ ts) =
    let next = end_of v + 1 in
    pick (is_command c (ascii "qx")) (pick (ltb begin back) back (part_end begin next next ts)) (part_end begin (pick (leads c) back next) next ts)

abbrev pub part_from : (s : List ℕ) (at : ℕ) → Section
part_from s at = part_at s at (part_end at at at (stream s at))
