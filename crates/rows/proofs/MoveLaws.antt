-- Laws of moved rows: rows spilled and lent mean the structs, rows filled and lent mean the words, rows spilled and filled again are the rows, and
-- a refused call leaves everything. (01: Records; Eight refusals, "All lent memory stays. Rows and bytes not named by a success stay too.")
-- Assumes nothing.
use Rattle.std.specs.Prelude.{Option, None, Some, Err, Ok}
use Prim.Native.Nat.{ℕ, ◌*◌, ◌/◌, ◌≤◌}
use native.Mathlib.Nat.{not-suc-le-zero, le_of_suc-le-suc}
use native.Mathlib.Omega.{arith}
use mathlib.Core.Path.{◌≡◌, refl, ap, sym, ◌∙◌}
use mathlib.Core.Bool.{Bool, true, false, ◌||◌}
use mathlib.Core.List.{List, [], ◌∷◌, map}
use lib.ListN.{length, take}
use lib.Dec.{ltb}
use borrow.Author.Tests.{ltb-false}
use Rattle.lin_spec.specs.Base.{any}
use Rattle.lin_spec.specs.Records.{bytes_at}
use Rattle.lin_spec.specs.Refusals.{Answer, unless}
use Rattle.lin_spec.specs.Output.{overlay, output_after}
use Rattle.lin_spec.specs.Board.{CallOf, BoardOf, map_board}
use Rattle.lin_spec.specs.Reading.{call_words, too_few}
use Rattle.lin_spec.specs.Lent.{rows_of, call_rows, call_in, bad_flag, lent, lent_board, meaning}
use Rattle.lin_spec.specs.declared.Span.{Span}
use Rattle.lin_spec.specs.declared.Call.{Call}
use Rattle.lin_spec.specs.declared.Board.{Board}
use Rattle.lin_spec.specs.declared.RowKind.TheVariants.{Calls}
use Rattle.lin_spec.specs.declared.Refusal.{Refusal}
use Rattle.lin_spec.specs.declared.Refusal.TheVariants.{TooFewRows, OutOfRange}
use Rattle.lin_spec.proofs.Checks.{unmet, unless-same}
use Rattle.lin_spec.proofs.ThirdDemand.{front_of}
use Rattle.rows.specs.declared.CallRow.{CallRow}
use Rattle.rows.specs.Rows.{called, row_in, row_numbers, lent_rows, laid_over, Moving, spill_of, structs_in, fill_answer, rows_after, fill_of}
use Rattle.rows.proofs.Laws.{words-many, rows_in, fill-all}

-- A row means its struct, and a struct is its row

by_parts : Span → Bool → Option Span → CallRow
by_parts x t m = record { bid = x; alerted = t; annotation = m }

pub row_means : (r : CallRow) → call_in (row_numbers r) ≡ called r
unfolding by_parts
row_means r = go r.alerted r.annotation
  where
    go : (t : Bool) (m : Option Span) → call_in (row_numbers (by_parts r.bid t m)) ≡ called (by_parts r.bid t m)
    go true None = refl
    go true (Some x) = refl
    go false None = refl
    go false (Some x) = refl

pub row-again : (r : CallRow) → row_in (called r) ≡ r
unfolding by_parts
row-again r = go r.annotation
  where
    go : (m : Option Span) → row_in (called (by_parts r.bid r.alerted m)) ≡ by_parts r.bid r.alerted m
    go None = refl
    go (Some x) = refl

pub call-again : (c : CallOf Span) → called (row_in c) ≡ c
call-again c = go c.annotation
  where
    go : (o : Option Span) → called (row_in (record { bid = c.bid; alerted = c.alerted; annotation = o })) ≡ record { bid = c.bid; alerted = c.alerted; annotation = o }
    go None = refl
    go (Some x) = refl

-- its flags are 0 or 1
pub row-flags : (r : CallRow) → bad_flag (row_numbers r) ≡ false
unfolding by_parts
row-flags r = go r.alerted r.annotation
  where
    go : (t : Bool) (m : Option Span) → bad_flag (row_numbers (by_parts r.bid t m)) ≡ false
    go true None = refl
    go true (Some x) = refl
    go false None = refl
    go false (Some x) = refl

-- Rows that stand in words

row_words : (r : CallRow) (rs : List CallRow) → call_rows (call_words (map called (r ∷ rs))) ≡ row_numbers r ∷ call_rows (call_words (map called rs))
unfolding by_parts call_words rows_of
row_words r rs = go r.annotation
  where
    go : (m : Option Span) → let x = by_parts r.bid r.alerted m in call_rows (call_words (map called (x ∷ rs))) ≡ row_numbers x ∷ call_rows (call_words (map called rs))
    go None = refl
    go (Some y) = refl

-- they give the six numbers of each
pub words-rows : (rs : List CallRow) → call_rows (call_words (map called rs)) ≡ map row_numbers rs
unfolding call_words rows_of
words-rows [] = refl
words-rows (r ∷ rs) = row_words r rs ∙ ap (λ (l : List Call). row_numbers r ∷ l) (words-rows rs)

-- and the rows again
numbered-again : (rs : List CallRow) → map (λ c. row_in (call_in c)) (map row_numbers rs) ≡ rs
numbered-again [] = refl
numbered-again (r ∷ rs) = ap (λ (x : CallRow). x ∷ map (λ c. row_in (call_in c)) (map row_numbers rs)) (ap row_in (row_means r) ∙ row-again r) ∙ ap (λ (l : List CallRow). r ∷ l) (numbered-again rs)

pub words-again : (rs : List CallRow) → structs_in (call_words (map called rs)) ≡ rs
words-again rs = ap (λ (cs : List Call). map (λ c. row_in (call_in c)) cs) (words-rows rs) ∙ numbered-again rs

pub words_flags : (rs : List CallRow) → any bad_flag (map row_numbers rs) ≡ false
unfolding any
words_flags [] = refl
words_flags (r ∷ rs) = ap (λ (t : Bool). t || any bad_flag (map row_numbers rs)) (row-flags r) ∙ words_flags rs

-- rows that words give mean what the words mean
pub given_means : (cs : List Call) → map call_in (map row_numbers (map (λ c. row_in (call_in c)) cs)) ≡ map call_in cs
given_means [] = refl
given_means (c ∷ cs) =
    ap (λ (x : CallOf Span). x ∷ map call_in (map row_numbers (map (λ c. row_in (call_in c)) cs))) (row_means (row_in (call_in c)) ∙ call-again (call_in c))
    ∙ ap (λ (l : List (CallOf Span)). call_in c ∷ l) (given_means cs)

-- Rows spilled

module _ (rs : List CallRow) (ws : List ℕ) (n : ℕ) (ws' : List ℕ) (h : spill_of rs ws ≡ record { answer = Ok n; after = ws' }) where
  -- all of them are
  pub spilled_all : n ≡ length rs
  unfolding spill_of
  spilled_all = sym (unless-same _ (length rs) n (ap (λ (x : Moving ℕ). x.answer) h))

  pub spilled_words : take (n * 6) ws' ≡ call_words (map called rs)
  unfolding spill_of
  spilled_words =
      let e = ap (λ (x : Moving ℕ). x.answer) h in
      let f : ws' ≡ overlay ws 0 (call_words (map called rs)) = sym (ap (λ (x : Moving ℕ). x.after) h) ∙ ap (λ (a : Answer ℕ). output_after a ws (call_words (map called rs))) e in
      ap (λ (l : List ℕ). take (n * 6) l) f ∙ front_of ws (call_words (map called rs)) (n * 6) (words-many rs ∙ ap (λ (k : ℕ). k * 6) (sym spilled_all))

  -- rows that are spilled and then lent mean the structs
  pub spilled_means : (s : List ℕ) (b : Board) (cs : List ℕ) → lent s b (take (n * 6) ws') cs ≡ lent_rows s b rs cs
  spilled_means s b cs = ap (λ (l : List Call). record { text = s; board = b; calls = l; cards = cs }) (ap call_rows spilled_words ∙ words-rows rs)

  -- rows spilled and filled again are the rows
  pub spilled_again : (ys : List CallRow) → length rs ≤ length ys → fill_of (take (n * 6) ws') ys ≡ record { answer = Ok (length rs); after = laid_over rs ys }
  unfolding fill_of
  spilled_again ys l = ap (λ (ws : List ℕ). fill_of ws ys) spilled_words ∙ go (words-many rs)
    where
      go : length (call_words (map called rs)) ≡ length rs * 6 → fill_of (call_words (map called rs)) ys ≡ record { answer = Ok (length rs); after = laid_over rs ys }
      go e =
          let k : length (call_words (map called rs)) / 6 ≡ length rs = omega (arith, e) in
          let a = sym (fill-all (length ys) (call_words (map called rs)) false (sym (ap (any bad_flag) (words-rows rs) ∙ words_flags rs)) refl (omega (arith, k))) ∙ ap (λ (m : ℕ). Ok m) k in
          ap (λ (x : Answer ℕ). record { answer = x; after = rows_after x (structs_in (call_words (map called rs))) ys }) a
          ∙ ap (λ (xs : List CallRow). record { answer = Ok (length rs); after = laid_over xs ys }) (words-again rs)

-- a refused call leaves the words
pub spill_stays : (rs : List CallRow) (ws : List ℕ) (r : Refusal) → (spill_of rs ws).answer ≡ Err r → (spill_of rs ws).after ≡ ws
unfolding spill_of
spill_stays rs ws r h = ap (λ (a : Answer ℕ). output_after a ws (call_words (map called rs))) h

-- Rows filled

-- the first of a list over another
front-laid : {A : Type 0} (xs ys : List A) → length xs ≤ length ys → take (length xs) (laid_over xs ys) ≡ xs
unfolding laid_over
front-laid [] ys h = refl
front-laid (x ∷ xs) [] h = absurd (not-suc-le-zero h)
front-laid {A} (x ∷ xs) (y ∷ ys) h = ap (λ (l : List A). x ∷ l) (front-laid xs ys (le_of_suc-le-suc h))

module _ (ws : List ℕ) (rs : List CallRow) (n : ℕ) (rs' : List CallRow) (h : fill_of ws rs ≡ record { answer = Ok n; after = rs' }) where
  answered : fill_answer (length rs) ws ≡ Ok n
  unfolding fill_of
  answered = ap (λ (x : Moving CallRow). x.answer) h

  -- no check met them
  unmet_by : (any bad_flag (call_rows ws) ≡ false) × (unless (too_few Calls (length rs) (length ws / 6) ∷ []) (length ws / 6) ≡ Ok n)
  unmet_by = unmet (any bad_flag (call_rows ws)) OutOfRange (too_few Calls (length rs) (length ws / 6) ∷ []) (length ws / 6) n answered

  fits : length ws / 6 ≤ length rs
  fits = ltb-false _ _ (unmet (ltb (length rs) (length ws / 6)) (TooFewRows Calls (length ws / 6)) [] (length ws / 6) n unmet_by.1).0

  -- all of them are
  pub filled_all : n ≡ length ws / 6
  filled_all = sym (unless-same _ (length ws / 6) n answered)

  pub filled_rows : take n rs' ≡ structs_in ws
  unfolding fill_of
  filled_rows =
      let f : rs' ≡ laid_over (structs_in ws) rs = sym (ap (λ (x : Moving CallRow). x.after) h) ∙ ap (λ (a : Answer ℕ). rows_after a (structs_in ws) rs) answered in
      let m : n ≡ length (structs_in ws) = filled_all ∙ sym (rows_in ws) in
      let l : length (structs_in ws) ≤ length rs = omega (arith, fits, rows_in ws) in
      ap (λ (l : List CallRow). take n l) f ∙ ap (λ (k : ℕ). take k (laid_over (structs_in ws) rs)) m ∙ front-laid (structs_in ws) rs l

  -- no flag of them was above 1
  pub filled_flags : any bad_flag (call_rows ws) ≡ false
  filled_flags = unmet_by.0

  module _ (s : List ℕ) (b : Board) (cs : List ℕ) where
    -- rows that are filled from words and then lent mean what the words mean: the board with its texts as spans, and with their bytes
    pub filled_board : lent_board (lent_rows s b (take n rs') cs) ≡ lent_board (lent s b ws cs)
    unfolding lent_board
    filled_board =
        let e : map call_in (map row_numbers (take n rs')) ≡ map call_in (call_rows ws) = ap (λ (l : List CallRow). map call_in (map row_numbers l)) filled_rows ∙ given_means (call_rows ws) in
        rw e refl

    pub filled_means : meaning (lent_rows s b (take n rs') cs) ≡ meaning (lent s b ws cs)
    unfolding meaning
    filled_means = ap (λ (x : BoardOf Span). map_board (bytes_at s) x) filled_board

-- a refused call leaves the rows
pub fill-stays : (ws : List ℕ) (rs : List CallRow) (r : Refusal) → (fill_of ws rs).answer ≡ Err r → (fill_of ws rs).after ≡ rs
unfolding fill_of
fill-stays ws rs r h = ap (λ (a : Answer ℕ). rows_after a (structs_in ws) rs) h
