-- Texts and spans. (01: Records)
use Rattle.std.specs.Prelude.{ℕ, ◌+◌, List, take, drop}
use Rattle.lin_spec.specs.declared.Span.{Span}

-- "A text has at most 1,048,576 bytes."
abbrev pub limit : ℕ
limit = 1048576

-- "A span is a start and a length in bytes, both 32 bits, into a text lent beside the record."
abbrev pub span : ℕ → ℕ → Span
span a n = record { start = a; len = n }

-- the place after its last byte; as a number it has 33 bits
abbrev pub end_of : Span → ℕ
end_of x = x.start + x.len

-- n bytes of s from the place a on, or as many as there are
unfoldable pub part : (s : List ℕ) (a n : ℕ) → List ℕ
part s a n = take n (drop a s)

-- the bytes that a span names
abbrev pub bytes_at : List ℕ → Span → List ℕ
bytes_at s x = part s x.start x.len
