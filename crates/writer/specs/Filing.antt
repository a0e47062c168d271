-- A lent board that is to be written with the marks of a call, and what is answered once the checks before 7 are passed. (01: Writer; Eight
-- refusals)
use Rattle.std.specs.Prelude.{ℕ, ◌+◌, List, [], ◌∷◌, length}
use Rattle.lin_spec.specs.Refusals.{unless}
use Rattle.lin_spec.specs.Output.{room, Outcome}
use Rattle.lin_spec.specs.Lent.{lent}
use Rattle.lin_spec.specs.Append.{Filing, written_form, too_small_after, extended}
use Rattle.lin_spec.specs.declared.Board.{Board}
use Rattle.writer_texts.specs.declared.texts.Marks.{Marks}

-- a lent board, with what cleaning puts for a pipe and for CR and LF
abbrev pub filing : Marks → (text : List ℕ) → Board → (words cards : List ℕ) → Filing
filing m s b ws cs = record { p = m.pipe; q = m.line; lent = lent s b ws cs }

-- the board after the used bytes, unless 7 meets it
unfoldable pub fitted : Filing → (o : List ℕ) (used : ℕ) → Outcome
fitted f o used =
    let s = written_form f in
    let a = unless (too_small_after (room o) used (length s) ∷ []) (used + length s) in
    record { answer = a; output = extended a o used s }
