-- Laws of title, room-and-board and header before cleaning: by the date and by the label, and how long they are. (01: From PBN)
-- Assumes nothing.
use Rattle.std.specs.Prelude.{Option, None, Some}
use Prim.Native.Nat.{ℕ, ◌+◌, ◌^◌, ◌≤◌, ◌<◌}
use native.Mathlib.Omega.{arith}
use mathlib.Core.Path.{◌≡◌, ap, sym, ◌∙◌}
use mathlib.Core.List.{List, [], ◌++◌, append-nil}
use mathlib.Core.Bool.{true, false}
use lib.ListN.{length, drop, length-append, length-take, length-drop}
use Rattle.lin_spec.specs.Base.{ascii}
use Rattle.lin_spec.specs.Records.{part, bytes_at}
use Rattle.lin_spec.specs.Decimal.{decimal}
use Rattle.lin_spec.specs.Writer.{or_empty}
use Rattle.lin_spec.specs.Pbn.{title_of, text_by}
use Rattle.lin_spec.specs.declared.Span.{Span}
use Rattle.lin_spec.proofs.Decimal.{length-short, more_digits}
use Rattle.pbn_texts.specs.declared.sources.Label.{Label}
use Rattle.pbn_texts.specs.Sources.{labelled}
use Rattle.pbn_texts.specs.Texts.{label_bytes, dated_text, title_text, labelled_text, room_text, label_header}

-- no text is longer than that which it is part of
pub bytes_most : (s : List ℕ) (y : Span) → length (bytes_at s y) ≤ length s
unfolding part
bytes_most s y = omega (arith, length-take y.len (drop y.start s), length-drop y.start s)

-- a number of 32 bits has at most ten digits
two_digits : (n : ℕ) → n < 100 → length (decimal n) ≤ 2
two_digits n h = more_digits 10 1 (λ m l. let e = length-short m l in omega arith) n (omega arith)

six_digits : (n : ℕ) → n < 1000000 → length (decimal n) ≤ 6
six_digits n h = more_digits 100000 5 (more_digits 10000 4 (more_digits 1000 3 (more_digits 100 2 two_digits))) n (omega arith)

pub ten_digits : (n : ℕ) → n < 2 ^ 32 → length (decimal n) ≤ 10
ten_digits n h = more_digits 1000000000 9 (more_digits 100000000 8 (more_digits 10000000 7 (more_digits 1000000 6 six_digits))) n (omega arith)

-- the title, by the date
pub title_dated : (s : List ℕ) (e d : Option Span) (y : Span) → d ≡ Some y → title_text s e d ≡ dated_text s e y
unfolding dated_text
title_dated s e d y k = ap (title_text s e) k ∙ go (text_by s e)
  where
    go : (o : Option (List ℕ)) → or_empty (title_of o (Some (bytes_at s y))) ≡ or_empty o ++ (ascii " - " ++ (bytes_at s y ++ []))
    go None = ap (λ (t : List ℕ). ascii " - " ++ t) (sym (append-nil (bytes_at s y)))
    go (Some t) = ap (λ (u : List ℕ). t ++ (ascii " - " ++ u)) (sym (append-nil (bytes_at s y)))

-- room-and-board and header, by the label
module _ (s : List ℕ) (l : Option Label) where
  pub labelled_no : labelled l ≡ false → labelled_text s l ≡ []
  labelled_no f = simp f

  -- room-and-board, and the header
  pub labels_long : labelled l ≡ true
      → (length (room_text s l) ≡ 8 + length (label_bytes s l) + length (label_bytes s l)) × (length (label_header s l) ≡ 6 + length (label_bytes s l))
  labels_long f = (simp (f, length-append) (omega arith), simp (f, length-append))

  pub labels_none : labelled l ≡ false → (length (room_text s l) ≡ 0) × (length (label_header s l) ≡ 0)
  labels_none f = (simp f, simp f)

-- a title has at most the bytes of event and date, and three
pub title_most : (s : List ℕ) (e d : Option Span) → length (title_text s e d) ≤ length s + (3 + length s)
title_most s None None = omega arith
title_most s None (Some y) = omega (arith, bytes_most s y)
title_most s (Some x) None = omega (arith, bytes_most s x)
title_most s (Some x) (Some y) = omega (arith, bytes_most s x, bytes_most s y, length-append (bytes_at s x) (ascii " - " ++ bytes_at s y))
