-- The refusals, what each carries, and the order of the checks. (01: Eight refusals; 02: N1, "it joins demand 1's eight, 01's table and its order of checks")
use Rattle.std.specs.Prelude.{ℕ, ◌-◌, ◌^◌, min, Bool, not, List, [], ◌∷◌, length, ltb, Option, None, Some, Result, Ok, Err}
use Rattle.lin_spec.specs.Base.{pick, any}
use Rattle.lin_spec.specs.Records.{limit, end_of, bytes_at}
use Rattle.lin_spec.specs.Utf8.{utf8, longest}
use Rattle.lin_spec.specs.declared.Span.{Span}
use Rattle.lin_spec.specs.declared.RowKind.{RowKind}
use Rattle.lin_spec.specs.declared.RowKind.TheVariants.{Calls, Cards}
use Rattle.lin_spec.specs.declared.Refusal.{Refusal}
use Rattle.lin_spec.specs.declared.Refusal.TheVariants.{TextTooLong, NotUtf8, TooFewRows, NoBoard, SpanPastEnd, SpanNotUtf8, OutputTooSmall, OutOfRange, BidUnknown}

-- "calls or cards"
abbrev pub kind_number : RowKind → ℕ
kind_number Calls = 0
kind_number Cards = 1

-- the column "No."
abbrev pub number_of : Refusal → ℕ
number_of TextTooLong = 1
number_of (NotUtf8 n) = 2
number_of (TooFewRows k n) = 3
number_of (NoBoard n) = 4
number_of SpanPastEnd = 5
number_of SpanNotUtf8 = 6
number_of (OutputTooSmall n) = 7
number_of OutOfRange = 8
number_of (BidUnknown n) = 9

-- the column "With it": the kind of rows, 0 where it carries none
abbrev pub kind_of : Refusal → ℕ
kind_of TextTooLong = 0
kind_of (NotUtf8 n) = 0
kind_of (TooFewRows k n) = kind_number k
kind_of (NoBoard n) = 0
kind_of SpanPastEnd = 0
kind_of SpanNotUtf8 = 0
kind_of (OutputTooSmall n) = 0
kind_of OutOfRange = 0
kind_of (BidUnknown n) = 0

-- and the length, count or index, 0 where it carries none
abbrev pub carried_of : Refusal → ℕ
carried_of TextTooLong = 0
carried_of (NotUtf8 n) = n
carried_of (TooFewRows k n) = n
carried_of (NoBoard n) = n
carried_of SpanPastEnd = 0
carried_of SpanNotUtf8 = 0
carried_of (OutputTooSmall n) = n
carried_of OutOfRange = 0
carried_of (BidUnknown n) = n

-- what a call answers: one of the refusals, or its result
abbrev pub Answer : Type 0 → Type 0
Answer A = Result A Refusal

-- the refusal, where its condition holds
abbrev pub refuse_if : Bool → Refusal → Option Refusal
refuse_if t r = pick t (Some r) None

-- "Each is checked over the whole input before the next": the first of the checks that meets the call, or the result
unfoldable pub unless : {A : Type 0} → List (Option Refusal) → A → Answer A
unless [] a = Ok a
unless (None ∷ cs) a = unless cs a
unless (Some r ∷ cs) a = Err r

-- 1: "a lent text is too long"
abbrev pub too_long : List ℕ → Option Refusal
too_long s = refuse_if (ltb limit (length s)) TextTooLong

-- 2: "a read text is not UTF-8", with the "length of the longest well-formed start"
abbrev pub not_utf8 : List ℕ → Option Refusal
not_utf8 s = refuse_if (not (utf8 s)) (NotUtf8 (longest s))

-- 5: "a span passes its text's end"
abbrev pub passes_end : List ℕ → Span → Bool
passes_end s x = ltb (length s) (end_of x)

abbrev pub past_end : List ℕ → List Span → Option Refusal
past_end s xs = refuse_if (any (passes_end s) xs) SpanPastEnd

-- 6: "a span's bytes are not UTF-8"
abbrev pub ill_span : List ℕ → Span → Bool
ill_span s x = not (utf8 (bytes_at s x))

abbrev pub span_not_utf8 : List ℕ → List Span → Option Refusal
span_not_utf8 s xs = refuse_if (any (ill_span s) xs) SpanNotUtf8

-- "64 bits; 2^64 or more is given as 2^64 less 1"
abbrev pub sat : ℕ → ℕ
sat n = min n (2 ^ 64 - 1)

-- 7: "output too small", with the "bytes this call would write"
abbrev pub too_small : (room need : ℕ) → Option Refusal
too_small room need = refuse_if (ltb room need) (OutputTooSmall (sat need))
