-- Laws of rows as structs: a row by its parts, a list over another one row at a time. (01: Records)
-- Assumes nothing.
use Rattle.std.specs.Prelude.{Err, Ok, Option, None, Some}
use Rattle.lin_spec.specs.declared.Span.{Span}
use Prim.Native.Nat.{ℕ, zero, suc, ◌+◌, ◌*◌, ◌/◌, ◌≤◌, ◌<◌, min}
use native.Mathlib.Nat.{not-suc-le-zero, le_of_suc-le-suc}
use native.Mathlib.Numerals.{add-one}
use native.Mathlib.Omega.{arith}
use mathlib.Core.Path.{◌≡◌, refl, ap, sym, subst, ◌∙◌}
use mathlib.Core.Bool.{Bool, true, false}
use mathlib.Core.List.{List, [], ◌∷◌, ◌++◌, map}
use lib.ListN.{length, take, drop, get_or, set, length-append, length-take, length-map, get_or-map, drop_of_length-le}
use Rattle.std.specs.Simd.{first_chunks}
use lib.Seq.{drop-cons}
use lib.Dec.{ltb}
use borrow.Author.Tests.{lt-ltb, le-ltb, ltb-false}
use Rattle.lin_spec.specs.Base.{any}
use Rattle.lin_spec.specs.Refusals.{Answer, refuse_if, unless}
use Rattle.lin_spec.specs.Output.{overlay, output_after}
use Rattle.lin_spec.specs.Reading.{flag, annotation_words, call_words}
use Rattle.lin_spec.specs.Lent.{call_row, call_in, call_rows, bad_flag}
use Rattle.lin_spec.specs.declared.Call.{Call}
use Rattle.lin_spec.specs.declared.RowKind.TheVariants.{Calls}
use Rattle.lin_spec.specs.declared.Refusal.TheVariants.{TooFewRows, OutOfRange}
use Rattle.rows.specs.declared.CallRow.{CallRow}
use Rattle.output.specs.Put.{Put}
use Rattle.output.proofs.Laws.{Left, start, step, finish}
use Rattle.board_lent.specs.Calls.{call_of}
use Rattle.board_lent.proofs.LentLaws.{rows-chunks, rows-count}
use Rattle.rows.specs.Rows.{called, row_in, empty_row, laid_over, struct_words, Moving, spill_answer, spill_of, structs_in, fill_answer, rows_after, fill_of}

-- A list over another from i on

unfoldable pub laid_at : {A : Type 0} → ℕ → (new old : List A) → List A
laid_at zero xs ys = laid_over xs ys
laid_at (suc i) xs [] = []
laid_at (suc i) xs (y ∷ ys) = y ∷ laid_at i xs ys

pub laid-start : {A : Type 0} (xs ys : List A) → laid_at 0 xs ys ≡ laid_over xs ys
unfolding laid_at
laid-start xs ys = refl

pub laid_more : {A : Type 0} (i : ℕ) (x : A) (xs ys : List A) → laid_at (i + 1) xs (set ys i x) ≡ laid_at i (x ∷ xs) ys
unfolding laid_at laid_over
laid_more {A} i x xs ys = rw (add-one i) (go i ys)
  where
    go : (i : ℕ) (ys : List A) → laid_at (suc i) xs (set ys i x) ≡ laid_at i (x ∷ xs) ys
    go zero [] = refl
    go zero (y ∷ ys) = refl
    go (suc i) [] = refl
    go (suc i) (y ∷ ys) = ap (λ (l : List A). y ∷ l) (go i ys)

pub laid_none : {A : Type 0} (i : ℕ) (ys : List A) → laid_at i [] ys ≡ ys
unfolding laid_at laid_over
laid_none {A} zero ys = refl
laid_none {A} (suc i) [] = refl
laid_none {A} (suc i) (y ∷ ys) = ap (λ (l : List A). y ∷ l) (laid_none i ys)

-- The first m of a list, one at a time

taken : {A : Type 0} (n : ℕ) (xs : List A) (i : ℕ) (d : A) → i < n → get_or (take n xs) i d ≡ get_or xs i d
taken zero xs i d h = absurd (not-suc-le-zero h)
taken (suc n) [] i d h = refl
taken (suc n) (x ∷ xs) zero d h = refl
taken (suc n) (x ∷ xs) (suc i) d h = taken n xs i d (le_of_suc-le-suc h)

-- one off the front of the first m
pub front : {A : Type 0} (xs : List A) (m i : ℕ) (d : A) → i < min (length xs) m → drop i (take m xs) ≡ get_or xs i d ∷ drop (i + 1) (take m xs)
front {A} xs m i d h =
    let l : i < length (take m xs) = omega (arith, length-take m xs) in
    drop-cons (take m xs) i d l ∙ ap (λ (x : A). x ∷ drop (suc i) (take m xs)) (taken m xs i d (omega arith)) ∙ ap (λ (k : ℕ). get_or xs i d ∷ drop k (take m xs)) (sym (add-one i))

-- Rows filled from words: those before row i are, and zs is the list

abbrev pub Filling : (ws : List ℕ) (ys : List CallRow) (i : ℕ) (zs : List CallRow) → Type 0
Filling ws ys i zs = laid_at i (drop i (structs_in ws)) zs ≡ laid_over (structs_in ws) ys

pub fill_start : (ws : List ℕ) (ys : List CallRow) → Filling ws ys 0 ys
fill_start ws ys = laid-start (structs_in ws) ys

pub rows_in : (ws : List ℕ) → length (structs_in ws) ≡ length ws / 6
rows_in ws = length-map (call_rows ws) (λ c. row_in (call_in c)) ∙ rows-count ws

-- the rows that the chunks of the words give
module _ (ws : List ℕ) (cs : List (List ℕ)) (e : cs ≡ first_chunks 6 (length ws / 6) ws) where
  row_at : (i : ℕ) → get_or (structs_in ws) i empty_row ≡ row_in (call_in (call_of (get_or cs i [])))
  row_at i =
      ap (λ (x : List Call). get_or (map (λ c. row_in (call_in c)) x) i empty_row) (rows-chunks call_row ws ∙ ap (map call_of) (sym e))
      ∙ get_or-map (λ c. row_in (call_in c)) (map call_of cs) i (call_of [])
      ∙ ap (λ (c : Call). row_in (call_in c)) (get_or-map call_of cs i [])

  chunks_many : length cs ≡ length ws / 6
  chunks_many = sym (length-map cs call_of) ∙ ap length (ap (map call_of) e ∙ sym (rows-chunks call_row ws)) ∙ rows-count ws

  module _ (ys : List CallRow) (i : ℕ) (zs : List CallRow) (h : Filling ws ys i zs) where
    pub fill_more : i < length cs → (c : Call) → c ≡ call_of (get_or cs i []) → (r : CallRow) → r ≡ row_in (call_in c) → Filling ws ys (i + 1) (set zs i r)
    fill_more l c ec r er =
        laid_more i r (drop (i + 1) (structs_in ws)) zs
        ∙ ap (λ (x : CallRow). laid_at i (x ∷ drop (i + 1) (structs_in ws)) zs) (er ∙ ap (λ (x : Call). row_in (call_in x)) ec ∙ sym (row_at i))
        ∙ ap (λ (x : List CallRow). laid_at i x zs) (sym (rw add-one (drop-cons (structs_in ws) i empty_row (omega (arith, rows_in ws, chunks_many)))))
        ∙ h

    pub fill_end : length cs ≤ i → zs ≡ laid_over (structs_in ws) ys
    fill_end k = sym (laid_none i zs) ∙ ap (λ (x : List CallRow). laid_at i x zs) (sym (drop_of_length-le (structs_in ws) (omega (arith, rows_in ws, chunks_many)))) ∙ h

-- and what the answer says of it
module _ (ys : List CallRow) (ws : List ℕ) (a : Answer ℕ) (e : a ≡ fill_answer (length ys) ws) where
  pub fill_fits : (n : ℕ) → a ≡ Ok n → length ws / 6 ≤ length ys
  unfolding unless
  fill_fits n h = go (any bad_flag (call_rows ws)) (ltb (length ys) (length ws / 6)) refl (sym e ∙ h)
    where
      go : (t u : Bool) → ltb (length ys) (length ws / 6) ≡ u
          → unless (refuse_if t OutOfRange ∷ refuse_if u (TooFewRows Calls (length ws / 6)) ∷ []) (length ws / 6) ≡ Ok n → length ws / 6 ≤ length ys
      go true u h f = cc
      go false true h f = cc
      go false false h f = ltb-false _ _ h

  pub fill_done : (zs : List CallRow) → zs ≡ rows_after a (structs_in ws) ys → ◌≡◌ {A = Moving CallRow} (record { answer = a; after = zs }) (fill_of ws ys)
  unfolding fill_of
  fill_done zs f = rw (f, e) refl

-- Rows spilled into words: those before row i are, ws are the words, and `at` is the place after the last

pub words_cons : (r : CallRow) (rs : List CallRow) → call_words (map called (r ∷ rs)) ≡ struct_words r ++ call_words (map called rs)
unfolding call_words
words_cons r rs = refl

words_long : (r : CallRow) → length (struct_words r) ≡ 6
words_long r = go r.annotation
  where
    go : (m : Option Span) → length (r.bid.start ∷ r.bid.len ∷ flag r.alerted ∷ annotation_words m) ≡ 6
    go None = refl
    go (Some x) = refl

pub words-many : (rs : List CallRow) → length (call_words (map called rs)) ≡ length rs * 6
unfolding call_words
words-many [] = refl
words-many (r ∷ rs) =
    let e : length (call_words (map called (r ∷ rs))) ≡ length (struct_words r) + length (call_words (map called rs)) = ap length (words_cons r rs) ∙ length-append (struct_words r) (call_words (map called rs)) in
    omega (arith, e, words_long r, words-many rs)

abbrev pub Spilling : (rs : List CallRow) (vs : List ℕ) (i : ℕ) (ws : List ℕ) (at : ℕ) → Type 0
Spilling rs vs i ws at = Left ws at (call_words (map called (drop i rs))) vs 0 (call_words (map called rs))

module _ (rs : List CallRow) (vs : List ℕ) where
  pub spill_start : length rs ≤ length vs / 6 → Spilling rs vs 0 vs 0
  spill_start l = start (record { room = omega (arith, words-many rs) })

  module _ (i : ℕ) (ws : List ℕ) (at : ℕ) (h : Spilling rs vs i ws at) where
    here : i < length rs → drop i rs ≡ get_or rs i empty_row ∷ drop (i + 1) rs
    here l = rw (add-one, drop-cons rs i empty_row l) refl

    pub spill_next : i < length rs → Left ws at (struct_words (get_or rs i empty_row) ++ call_words (map called (drop (i + 1) rs))) vs 0 (call_words (map called rs))
    spill_next l = subst (λ (x : List ℕ). Left ws at x vs 0 (call_words (map called rs))) (ap (λ (x : List CallRow). call_words (map called x)) (here l) ∙ words_cons (get_or rs i empty_row) (drop (i + 1) rs)) h

    pub spill_more : i < length rs → (zs : List ℕ) (at' : ℕ) → Put ws at (struct_words (get_or rs i empty_row)) zs at' → Spilling rs vs (i + 1) zs at'
    spill_more l zs at' p = step (spill_next l) p

    pub spill_end : length rs ≤ i → ws ≡ overlay vs 0 (call_words (map called rs))
    unfolding call_words
    spill_end k =
        (finish (subst (λ (x : List CallRow). Left ws at (call_words (map called x)) vs 0 (call_words (map called rs))) (drop_of_length-le rs k) h)).text

-- and what the answer says of it
module _ (rs : List CallRow) (vs : List ℕ) (a : Answer ℕ) (e : a ≡ spill_answer (length rs) (length vs)) where
  pub spill_fits : (n : ℕ) → a ≡ Ok n → length rs ≤ length vs / 6
  unfolding unless
  spill_fits n h = go (ltb (length vs / 6) (length rs)) refl (sym e ∙ h)
    where
      go : (t : Bool) → ltb (length vs / 6) (length rs) ≡ t → unless (refuse_if t (TooFewRows Calls (length rs)) ∷ []) (length rs) ≡ Ok n → length rs ≤ length vs / 6
      go true h f = cc
      go false h f = ltb-false _ _ h

  pub spill_done : (ws : List ℕ) → ws ≡ output_after a vs (call_words (map called rs)) → ◌≡◌ {A = Moving ℕ} (record { answer = a; after = ws }) (spill_of rs vs)
  unfolding spill_of
  spill_done ws f = rw (f, e) refl

-- The answers, by the tests that led there

module _ (n m : ℕ) where
  pub spill_few : m / 6 < n → Err (TooFewRows Calls n) ≡ spill_answer n m
  unfolding unless
  spill_few h = simp (lt-ltb (m / 6) n h)

  pub spill_all : n ≤ m / 6 → Ok n ≡ spill_answer n m
  unfolding unless
  spill_all h = simp (le-ltb (m / 6) n h)

module _ (n : ℕ) (ws : List ℕ) (t : Bool) (e : t ≡ any bad_flag (call_rows ws)) where
  pub fill-flag : t ≡ true → Err OutOfRange ≡ fill_answer n ws
  unfolding unless
  fill-flag h = simp (← e, h)

  module _ (h : t ≡ false) where
    pub fill-few : n < length ws / 6 → Err (TooFewRows Calls (length ws / 6)) ≡ fill_answer n ws
    unfolding unless
    fill-few l = simp (← e, h, lt-ltb n (length ws / 6) l)

    pub fill-all : length ws / 6 ≤ n → Ok (length ws / 6) ≡ fill_answer n ws
    unfolding unless
    fill-all l = simp (← e, h, le-ltb n (length ws / 6) l)
