-- What the checks of a lent board answer. (01: Eight refusals)
use Rattle.std.specs.Prelude.{ℕ, ◌≤◌, ◌<◌, ◌≡◌, Bool, ◌||◌, List, [], ◌∷◌, length, take}
use Rattle.lin_spec.specs.Base.{any}
use Rattle.lin_spec.specs.Records.{limit}
use Rattle.lin_spec.specs.Refusals.{Answer, unless, passes_end, ill_span}
use Rattle.lin_spec.specs.declared.Span.{Span}
use Rattle.lin_spec.specs.Lent.{call_rows, Lent, lent_spans, bad_flag, bad_number, lent_checks}
use Rattle.text.specs.Index.{Indexed}
use Rattle.board_lent.specs.declared.checks.Bounds.{Bounds}
use Rattle.board_lent.specs.declared.checks.Start.{Start}
use Rattle.board_lent.specs.Calls.{spans_of_call}

-- the refusal of the first check that meets the board, if one does
abbrev pub checked : (other : Bool) → Lent → Answer Unit
checked other x = unless (lent_checks other x) tt

-- 5 or 6 meets a span: one that passes the end is not asked for 6
abbrev pub amiss : List ℕ → Span → Bool
amiss s x = passes_end s x || ill_span s x

-- an index of s of one word or none, and where it has one, s is no longer than a text may be
pub record Started (s : List ℕ) (r : Start) : Type 0 where
  pub few : r.words ≤ 1
  pub index : Indexed s (take r.words (r.first ∷ []))
  pub short : 0 < r.words → length s ≤ limit

-- what is wrong with the numbers of the rows ws over the text s
pub record RowsBounded (s ws : List ℕ) (r : Bounds) : Type 0 where
  pub flags : r.number ≡ any bad_flag (call_rows ws)
  pub ends : r.past ≡ any (λ c. any (passes_end s) (spans_of_call c)) (call_rows ws)

-- and of all that is lent
pub record Bounded (x : Lent) (r : Bounds) : Type 0 where
  pub numbers : r.number ≡ bad_number x
  pub ends : r.past ≡ any (passes_end x.text) (lent_spans x)
