-- Laws of rows that are put: one row off the front, what is left to put, how many bytes they have. (01: Writer, mb and an)
-- Assumes nothing.
use Rattle.std.specs.Prelude.{Option, None, Some}
use Prim.Native.Nat.{ℕ, ◌+◌, ◌≤◌, ◌<◌}
use native.Mathlib.Omega.{arith}
use mathlib.Core.Path.{◌≡◌, refl, ap, sym, ◌∙◌, subst}
use mathlib.Core.List.{List, [], ◌∷◌, ◌++◌}
use native.Mathlib.Numerals.{add-one}
use lib.Seq.{drop-cons}
use lib.ListN.{length, drop, get_or, length-append, drop_of_length-le}
use Rattle.lin_spec.specs.Base.{ascii, concat}
use Rattle.lin_spec.specs.Records.{bytes_at}
use Rattle.lin_spec.specs.Board.{map_option}
use Rattle.lin_spec.specs.Writer.{clean, optional}
use Rattle.lin_spec.specs.Lent.{call_in}
use Rattle.lin_spec.specs.declared.Call.{Call}
use Rattle.output.specs.Put.{Room, Put}
use Rattle.output.proofs.Laws.{Left, start, step, finish}
use Rattle.writer_texts.specs.Calls.{call_bytes}
use Rattle.writer_texts.proofs.TextLaws.{clean-length}
use Rattle.writer_texts.proofs.CallLaws.{call_long}
use Rattle.rows.specs.declared.CallRow.{CallRow}
use Rattle.rows.specs.Rows.{empty_row, row_numbers}
use Rattle.rows_walks.specs.Walks.{row_bytes, rows_bytes}

module _ (p q : ℕ) (s : List ℕ) where
  pub rows_cons : (r : CallRow) (rs : List CallRow) → rows_bytes p q s (r ∷ rs) ≡ row_bytes p q s r ++ rows_bytes p q s rs
  unfolding rows_bytes concat call_bytes
  rows_cons r rs = refl

  pub rows_none : rows_bytes p q s [] ≡ []
  unfolding rows_bytes concat
  rows_none = refl

-- The rows are put from the place `at` on: those before row i are, o is the output, and `pos` is the place after the last

abbrev pub Putting : (p q : ℕ) (s : List ℕ) (rs : List CallRow) (o₀ : List ℕ) (at i : ℕ) (o : List ℕ) (pos : ℕ) → Type 0
Putting p q s rs o₀ at i o pos = Left o pos (rows_bytes p q s (drop i rs)) o₀ at (rows_bytes p q s rs)

module _ (p q : ℕ) (s : List ℕ) (rs : List CallRow) (o₀ : List ℕ) (at : ℕ) where
  pub put_start : Room o₀ at (rows_bytes p q s rs) → Putting p q s rs o₀ at 0 o₀ at
  put_start r = start r

  module _ (i : ℕ) (o : List ℕ) (pos : ℕ) (h : Putting p q s rs o₀ at i o pos) where
    here : i < length rs → drop i rs ≡ get_or rs i empty_row ∷ drop (i + 1) rs
    here l = rw (add-one, drop-cons rs i empty_row l) refl

    pub put_next : i < length rs → Left o pos (row_bytes p q s (get_or rs i empty_row) ++ rows_bytes p q s (drop (i + 1) rs)) o₀ at (rows_bytes p q s rs)
    put_next l =
        subst (λ (x : List ℕ). Left o pos x o₀ at (rows_bytes p q s rs))
        (ap (rows_bytes p q s) (here l) ∙ rows_cons p q s (get_or rs i empty_row) (drop (i + 1) rs)) h

    pub put_more : i < length rs → (o' : List ℕ) (pos' : ℕ) → Put o pos (row_bytes p q s (get_or rs i empty_row)) o' pos' → Putting p q s rs o₀ at (i + 1) o' pos'
    put_more l o' pos' e = step (put_next l) e

    pub put_end : length rs ≤ i → Put o₀ at (rows_bytes p q s rs) o pos
    put_end k =
        let None : rows_bytes p q s (drop i rs) ≡ [] = ap (rows_bytes p q s) (drop_of_length-le rs k) ∙ rows_none p q s in
        finish (subst (λ (x : List ℕ). Left o pos x o₀ at (rows_bytes p q s rs)) None h)

-- The number of bytes does not depend on the marks of cleaning

module _ (p q p' q' : ℕ) (s : List ℕ) where
  annotation-long : (o : Option (List ℕ)) → length (optional (ascii "an|") (map_option (clean p q) o)) ≡ length (optional (ascii "an|") (map_option (clean p' q') o))
  annotation-long None = refl
  annotation-long (Some x) = simp (length-append, clean-length)

  pub call-long-same : (c : Call) → length (call_bytes p q s c) ≡ length (call_bytes p' q' s c)
  call-long-same c = let e = annotation-long (map_option (bytes_at s) (call_in c).annotation) in omega (arith, call_long p q s c, call_long p' q' s c, e)

  pub rows-long-same : (rs : List CallRow) → length (rows_bytes p q s rs) ≡ length (rows_bytes p' q' s rs)
  rows-long-same [] = ap length (rows_none p q s) ∙ sym (ap length (rows_none p' q' s))
  rows-long-same (r ∷ rs) =
      let a = ap length (rows_cons p q s r rs) ∙ length-append (row_bytes p q s r) (rows_bytes p q s rs) in
      let b = ap length (rows_cons p' q' s r rs) ∙ length-append (row_bytes p' q' s r) (rows_bytes p' q' s rs) in
      omega (arith, a, b, call-long-same (row_numbers r), rows-long-same rs)
