-- What is wrong with a span, by the refusal that it meets. (01: Eight refusals, 5 and 6)
use Rattle.std.specs.Prelude.{ℕ, Bool, List}
use Rattle.lin_spec.specs.Refusals.{passes_end, ill_span}
use Rattle.lin_spec.specs.declared.Span.{Span}
use Rattle.text.specs.declared.index.Fault.{Fault}
use Rattle.text.specs.declared.index.Fault.TheVariants.{PastEnd, NotUtf8}

abbrev pub fault_of : Fault → List ℕ → Span → Bool
fault_of PastEnd s x = passes_end s x
fault_of NotUtf8 s x = ill_span s x
