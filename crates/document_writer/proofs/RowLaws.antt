-- Laws of rows: one row off the front of the words, what is left to write, to count and to check. (01: Tokens)
-- Assumes nothing.
use Prim.Native.Nat.{ℕ, zero, suc, ◌+◌, ◌-◌, ◌*◌, ◌/◌, ◌^◌, ◌≤◌, ◌<◌}
use native.Mathlib.Omega.{arith}
use mathlib.Core.Path.{◌≡◌, refl, ap, sym, ◌∙◌}
use mathlib.Core.Bool.{Bool, true, false, ◌&&◌, ◌||◌, or-false}
use mathlib.Core.List.{List, [], ◌∷◌, ◌++◌, append_assoc, append-nil}
use lib.ListN.{length, get_or, take, drop, length-append, length-drop}
use lib.Seq.{drop-drop, take_all, get_or-take, get_or-drop}
use Rattle.std.specs.Simd.{first_chunks}
use Rattle.lin_spec.specs.Base.{any}
use lib.Dec.{leb}
use borrow.Author.Tests.{ltb-false, leb-true}
use Rattle.lin_spec.specs.Records.{end_of, bytes_at}
use Rattle.lin_spec.specs.Refusals.{sat, passes_end}
use Rattle.lin_spec.specs.Tokens.{write}
use Rattle.lin_spec.specs.Document.{rows_in, spans_of, document_text}
use Rattle.lin_spec.specs.declared.Span.{Span}
use Rattle.lin_spec.proofs.Base.{or_none, and_left, and_right}
use Rattle.lin_spec.proofs.Records.{part_length}
use Rattle.text.proofs.ListLaws.{next_word}
use Rattle.output.proofs.Laws.{Left}
use Rattle.document_writer.specs.declared.documents.Row.{Row}
use Rattle.document_writer.specs.Rows.{document_row_at, document_row, token_text}

-- one row off the front
pub rows_cons : (ws : List ℕ) (i : ℕ) → 4 ≤ length ws - i → rows_in (drop i ws) ≡ document_row_at ws i ∷ rows_in (drop (i + 4) ws)
unfolding rows_in
rows_cons ws i h =
    let a = next_word ws i (i + 1) refl (omega arith) in
    let b = next_word ws (i + 1) (i + 2) (omega arith) (omega arith) in
    let c = next_word ws (i + 2) (i + 3) (omega arith) (omega arith) in
    let d = next_word ws (i + 3) (i + 4) (omega arith) (omega arith) in
    rw (a, b, c, d)

few_words : (us : List ℕ) → length us < 4 → rows_in us ≡ []
unfolding rows_in
few_words [] k = refl
few_words (a ∷ []) k = refl
few_words (a ∷ b ∷ []) k = refl
few_words (a ∷ b ∷ c ∷ []) k = refl
few_words (a ∷ b ∷ c ∷ d ∷ us) k = absurd (let z : ⊥ = omega arith in z)

-- a rest is no row
pub rows_end : (ws : List ℕ) (i : ℕ) → length ws - i < 4 → rows_in (drop i ws) ≡ []
rows_end ws i h = few_words (drop i ws) (rw (length-drop i ws) h)

-- Rows as chunks of four words

chunk_at : (c k : ℕ) (ws d : List ℕ) → k < c → get_or (first_chunks 4 c ws) k d ≡ take 4 (drop (k * 4) ws)
chunk_at zero k ws d h = absurd (omega arith)
chunk_at (suc c) zero ws d h = refl
chunk_at (suc c) (suc k) ws d h =
    chunk_at c k (drop 4 ws) d (omega arith) ∙ ap (take 4) (drop-drop (k * 4) 4 ws ∙ ap (λ (n : ℕ). drop n ws) (let z : 4 + k * 4 ≡ suc k * 4 = omega arith in z))

-- the row of the chunk k is that of the four words from k * 4 on, which are there
pub row_chunk : (ws : List ℕ) (cs : List (List ℕ)) (k : ℕ) (d : List ℕ) → cs ≡ first_chunks 4 (length ws / 4) ws → length cs ≡ length ws / 4 → k < length cs
    → (4 ≤ length ws - k * 4) × (document_row (document_row_at (get_or cs k d) 0) ≡ document_row (document_row_at ws (k * 4)))
row_chunk ws cs k d e l h =
    let a : get_or cs k d ≡ take 4 (drop (k * 4) ws) = ap (λ (x : List (List ℕ)). get_or x k d) e ∙ chunk_at (length ws / 4) k ws d (omega arith) in
    let b : (j : ℕ) → j < 4 → get_or (get_or cs k d) j 0 ≡ get_or ws (k * 4 + j) 0 = λ j m. ap (λ (x : List ℕ). get_or x j 0) a ∙ get_or-take 4 (drop (k * 4) ws) j 0 m ∙ get_or-drop (k * 4) ws j 0 in
    let z : k * 4 + 0 ≡ k * 4 = omega arith in
    (omega arith, rw (b 0 (omega arith), b 1 (omega arith), b 2 (omega arith), b 3 (omega arith), z) refl)

-- the rows from the word j on, as a borrow gives them
pub row_in_rest : (ws : List ℕ) (j i : ℕ) → document_row (document_row_at (take (length ws - j) (drop j ws)) i) ≡ document_row (document_row_at ws (j + i))
row_in_rest ws j i =
    let a : take (length ws - j) (drop j ws) ≡ drop j ws = take_all (length ws - j) (drop j ws) (omega (arith, length-drop j ws)) in
    let b : (k : ℕ) → j + (i + k) ≡ j + i + k = λ k. omega arith in
    rw (a, get_or-drop j ws i 0, get_or-drop j ws (i + 1) 0, get_or-drop j ws (i + 2) 0, get_or-drop j ws (i + 3) 0, b 1, b 2, b 3) refl

-- The bytes from word i on: those of its row, and the others; past the last row, the trailing text

abbrev pub row_text_at : (s ws : List ℕ) (i : ℕ) → List ℕ
row_text_at s ws i = token_text s (document_row (document_row_at ws i))

pub text_cons : (s ws : List ℕ) (tr : Span) (i : ℕ) → 4 ≤ length ws - i → document_text s (drop i ws) tr ≡ row_text_at s ws i ++ document_text s (drop (i + 4) ws) tr
unfolding document_text write token_text
text_cons s ws tr i h = simp (rows_cons ws i h, append_assoc)

pub text-end : (s ws : List ℕ) (tr : Span) (i : ℕ) → length ws - i < 4 → document_text s (drop i ws) tr ≡ bytes_at s tr
unfolding document_text write
text-end s ws tr i h = simp (rows_end ws i h)

-- Counting

pub row-long : (s : List ℕ) (r : Row) → length (token_text s r) ≡ length (bytes_at s r.command) + length (bytes_at s r.value) + 2
unfolding token_text
row-long s r = simp length-append (omega arith)

-- a turn of the count, and its end
pub count_turn : (s ws : List ℕ) (tr : Span) (i n n' x whole : ℕ) (r : Row) → 4 ≤ length ws - i → r ≡ document_row (document_row_at ws i)
    → sat (n + length (document_text s (drop i ws) tr)) ≡ sat whole → x ≡ sat (length (token_text s r)) → n' ≡ sat (n + x)
    → sat (n' + length (document_text s (drop (i + 4) ws) tr)) ≡ sat whole
count_turn s ws tr i n n' x whole r h q e f g =
    let l : length (token_text s r) ≡ length (row_text_at s ws i) = ap (λ (y : Row). length (token_text s y)) q in
    omega (arith, simp length-append at (ap length (text_cons s ws tr i h)))

pub count-end : (s ws : List ℕ) (tr : Span) (i r r' whole : ℕ) → length ws - i < 4 → sat (r + length (document_text s (drop i ws) tr)) ≡ sat whole
    → r' ≡ sat (r + length (bytes_at s tr)) → r' ≡ sat whole
count-end s ws tr i r r' whole h e f = omega (arith, ap length (text-end s ws tr i h))

-- Checking: a test over all spans goes row by row

module _ (f : Span → Bool) (ws : List ℕ) (tr : Span) (i : ℕ) where
  pub any_cons : 4 ≤ length ws - i
      → any f (spans_of (rows_in (drop i ws)) tr) ≡ (f (document_row_at ws i).command || (f (document_row_at ws i).value || any f (spans_of (rows_in (drop (i + 4) ws)) tr)))
  unfolding spans_of any
  any_cons h = simp (rows_cons ws i h)

  pub any-end : length ws - i < 4 → any f (spans_of (rows_in (drop i ws)) tr) ≡ f tr
  unfolding spans_of any
  any-end h = simp (rows_end ws i h, or-false)

-- Looking at every row once, by one test of its two spans

or_both : (a b c : Bool) → (a || (b || c)) ≡ ((a || b) || c)
or_both true b c = refl
or_both false b c = refl

or_swap : (x t y : Bool) {w : Bool} → (x || (t || y)) ≡ w → ((x || t) || y) ≡ w
or_swap true t y e = e
or_swap false t y e = e

module _ (f : Span → Bool) (ws : List ℕ) (tr : Span) (i : ℕ) (h : 4 ≤ length ws - i) (r : Row) (e : r ≡ document_row (document_row_at ws i)) (t : Bool) (et : t ≡ (f r.command || f r.value)) where
  row_any : any f (spans_of (rows_in (drop i ws)) tr) ≡ (t || any f (spans_of (rows_in (drop (i + 4) ws)) tr))
  row_any =
      any_cons f ws tr i h
      ∙ or_both (f (document_row_at ws i).command) (f (document_row_at ws i).value) (any f (spans_of (rows_in (drop (i + 4) ws)) tr))
      ∙ ap (λ (b : Bool). b || any f (spans_of (rows_in (drop (i + 4) ws)) tr)) (sym (et ∙ ap (λ (x : Row). f x.command || f x.value) e))

  pub row-yes : {w : Bool} → any f (spans_of (rows_in (drop i ws)) tr) ≡ w → t ≡ true → w ≡ true
  row-yes v k = sym v ∙ row_any ∙ simp k

  pub row_no : {w : Bool} → any f (spans_of (rows_in (drop i ws)) tr) ≡ w → t ≡ false → any f (spans_of (rows_in (drop (i + 4) ws)) tr) ≡ w
  row_no v k = (let z : any f (spans_of (rows_in (drop (i + 4) ws)) tr) ≡ (t || any f (spans_of (rows_in (drop (i + 4) ws)) tr)) = simp k in z) ∙ sym row_any ∙ v

  pub row_or : (x : Bool) {w : Bool} → (x || any f (spans_of (rows_in (drop i ws)) tr)) ≡ w → ((x || t) || any f (spans_of (rows_in (drop (i + 4) ws)) tr)) ≡ w
  row_or x v = or_swap x t (any f (spans_of (rows_in (drop (i + 4) ws)) tr)) (sym (ap (λ (b : Bool). x || b) row_any) ∙ v)

-- after the last row the trailing span decides
module _ (f : Span → Bool) (ws : List ℕ) (tr : Span) (i : ℕ) (h : length ws - i < 4) where
  pub last-any : {w : Bool} → any f (spans_of (rows_in (drop i ws)) tr) ≡ w → (t : Bool) → t ≡ f tr → w ≡ t
  last-any v t et = sym v ∙ any-end f ws tr i h ∙ sym et

  pub last_or : (x : Bool) {w : Bool} → (x || any f (spans_of (rows_in (drop i ws)) tr)) ≡ w → (t : Bool) → t ≡ f tr → w ≡ (x || t)
  last_or x v t et = sym v ∙ ap (λ (b : Bool). x || b) (any-end f ws tr i h ∙ sym et)

-- the bytes of spans that are within the text
within_both : (s : List ℕ) (x y : Span) → (passes_end s x || passes_end s y) ≡ false → (end_of x ≤ length s) × (end_of y ≤ length s)
within_both s x y k = let n = or_none (passes_end s x) (passes_end s y) k in (ltb-false (length s) (end_of x) n.0, ltb-false (length s) (end_of y) n.1)

pub row_within : (s : List ℕ) (r : Row) → (passes_end s r.command || passes_end s r.value) ≡ false → (end_of r.command ≤ length s) × (end_of r.value ≤ length s)
row_within s r k = within_both s r.command r.value k

-- spans that end at or before a place
module _ (r : Row) (p : ℕ) (t : Bool) (e : t ≡ (leb (end_of r.command) p && leb (end_of r.value) p)) (k : t ≡ true) where
  pub row_near : (end_of r.command ≤ p) × (end_of r.value ≤ p)
  row_near =
      let a = leb (end_of r.command) p in
      let b = leb (end_of r.value) p in
      (leb-true (end_of r.command) p (and_left a b (sym e ∙ k)), leb-true (end_of r.value) p (and_right a b (sym e ∙ k)))

pub row_sized : (s : List ℕ) (r : Row) (x : ℕ) → (passes_end s r.command || passes_end s r.value) ≡ false → x ≡ r.command.len + r.value.len + 2 → x < 2 ^ 64
    → x ≡ sat (length (token_text s r))
row_sized s r x k e l =
    let w = row_within s r k in
    let a = part_length s r.command.start r.command.len w.0 in
    let b = part_length s r.value.start r.value.len w.1 in
    let c = row-long s r in
    omega arith

pub span-within : (s : List ℕ) (x : Span) (t : Bool) → t ≡ passes_end s x → t ≡ false → end_of x ≤ length s
span-within s x t e k = ltb-false (length s) (end_of x) (sym e ∙ k)

pub span_sized : (s : List ℕ) (x : Span) → end_of x ≤ length s → length (bytes_at s x) ≡ x.len
span_sized s x h = part_length s x.start x.len h

-- Writing: what is left to write past the last row is the trailing text

module _ (s ws : List ℕ) (tr : Span) (i : ℕ) {d : List ℕ} {pos : ℕ} {d₀ : List ℕ} {at : ℕ} {whole : List ℕ} (l : Left d pos (document_text s (drop i ws) tr) d₀ at whole) where
  pub trailing-left : length ws - i < 4 → Left d pos (bytes_at s tr ++ []) d₀ at whole
  trailing-left h = rw append-nil (rw (text-end s ws tr i h) at l)
