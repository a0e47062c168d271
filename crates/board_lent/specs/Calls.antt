-- What a row of six words gives, and the spans that a call names. (01: Records)
use Rattle.std.specs.Prelude.{ℕ, ◌+◌, List, ◌∷◌, get_or, eqb}
use Rattle.lin_spec.specs.Base.{pick}
use Rattle.lin_spec.specs.Lent.{call_row, call_in, span_in}
use Rattle.lin_spec.specs.declared.Span.{Span}
use Rattle.lin_spec.specs.declared.Call.{Call}

-- what the words of one row give, and the call
abbrev pub of_row : {A : Type 0} → (f : ℕ → ℕ → ℕ → ℕ → ℕ → ℕ → A) → (row : List ℕ) → A
of_row f r = f (get_or r 0 0) (get_or r 1 0) (get_or r 2 0) (get_or r 3 0) (get_or r 4 0) (get_or r 5 0)

abbrev pub call_of : (row : List ℕ) → Call
call_of r = of_row call_row r

-- the spans that a call names
abbrev pub spans_of_call : Call → List Span
spans_of_call c = c.bid ∷ span_in (call_in c).annotation

-- how many bytes its texts have together
abbrev pub text_bytes : Call → ℕ
text_bytes c = c.bid.len + pick (eqb c.annotated 0) 0 c.annotation.len
