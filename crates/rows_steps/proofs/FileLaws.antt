-- Laws of reading a file's board into rows: the answer of its number. (01: File; "Reading: 1, 2, 4, 3.")
-- Assumes nothing.
use Rattle.std.specs.Prelude.{Result, Ok, Err}
use Prim.Native.Nat.{ℕ, ◌≤◌, ◌<◌, ◌^◌}
use mathlib.Core.Path.{◌≡◌, ap, sym, ◌∙◌}
use mathlib.Core.List.{List}
use lib.ListN.{length, take}
use Rattle.lin_spec.specs.Refusals.{Answer, unless}
use Rattle.lin_spec.specs.Board.{BoardOf}
use Rattle.lin_spec.specs.File.{open_boards, sections, boards_of, numbered}
use Rattle.lin_spec.specs.declared.Span.{Span}
use Rattle.lin_spec.specs.declared.Refusal.{Refusal}
use Rattle.lin_spec.specs.declared.Refusal.TheVariants.{NoBoard}
use Rattle.board_loop.specs.Head.{board_at}
use Rattle.file_sections.specs.Sections.{opened_of, Inside}
use Rattle.file.specs.Numbers.{NumberedBoard}
use Rattle.file_sections.specs.declared.sections.BoardCursor.{BoardCursor}
use Rattle.file_sections.specs.declared.sections.Section.{Section}
use Rattle.file.proofs.NumberLaws.{passed, missing, there, stopped, numbered_is}
use Rattle.rows_steps.specs.declared.steps.Headed.{Headed}
use Rattle.rows_steps.specs.Steps.{few_structs, file_answer, HeadsBy}
use Rattle.rows_steps.proofs.StepLaws.{heads_refused, heads_same}

-- a board's section within the text
pub section-within : (s : List ℕ) (p : Section) → Inside s p → (p.start ≤ p.stop) × (p.stop ≤ length s) × (length s < 2 ^ 32)
section-within s p h = (h.begins, h.stops, h.short)

module _ (s : List ℕ) (o : Result BoardCursor Refusal) (e : opened_of o ≡ open_boards s) (n rows : ℕ) (cards : List ℕ) (h : Answer Headed) where
  pub file_refused : (r : Refusal) → o ≡ Err r → h ≡ Err r → HeadsBy s (file_answer s n rows cards) rows cards h cards
  file_refused r f g = heads_refused s (file_answer s n rows cards) rows cards r (stopped s o e r f _ (numbered s n)) h g

  module _ (c : BoardCursor) (f : o ≡ Ok c) where
    pub file_missing : (r : Refusal) → r ≡ NoBoard (length (boards_of (sections s))) → length (boards_of (sections s)) ≤ n → h ≡ Err r → HeadsBy s (file_answer s n rows cards) rows cards h cards
    file_missing r q l g = heads_refused s (file_answer s n rows cards) rows cards r (passed s o e c f _ (numbered s n) ∙ missing s o e c f n r q l (few_structs (numbered s n) rows cards) (numbered s n)) h g

    pub file_read : (p : Section) → NumberedBoard s n p → (cards' : List ℕ) → HeadsBy s (unless (few_structs (board_at (take p.stop s) p.start) rows cards) (board_at (take p.stop s) p.start)) rows cards h cards'
        → HeadsBy s (file_answer s n rows cards) rows cards h cards'
    file_read p b cards' g =
        heads_same s _ _ rows cards h cards'
        (sym (passed s o e c f _ (numbered s n) ∙ there s o e c f n p b (few_structs (numbered s n) rows cards) (numbered s n) ∙ ap (λ (x : BoardOf Span). unless (few_structs x rows cards) x) (numbered_is s n p b)))
        g
