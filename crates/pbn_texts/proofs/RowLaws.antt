-- Laws of the rows of the kept calls: the words of a row, the row of a call, and the rows one after the other. (01: From PBN; Records)
-- Assumes nothing.
use Prim.Native.Nat.{ℕ, ◌+◌, ◌≤◌, ◌<◌}
use native.Mathlib.Omega.{arith}
use mathlib.Core.Path.{◌≡◌, refl, ap, sym, subst}
use mathlib.Core.Bool.{Bool, true, false, not}
use mathlib.Core.List.{List, [], ◌++◌}
use lib.ListN.{length, get_or, drop, length-append}
use borrow.Author.Tests.{not-true, not-false}
use Rattle.lin_spec.specs.Records.{limit}
use Rattle.lin_spec.specs.Refusals.{sat}
use Rattle.lin_spec.specs.Pbn.{pbn_row}
use Rattle.lin_spec.specs.declared.PbnCall.{PbnCall}
use Rattle.output.specs.Put.{Room, Put}
use Rattle.output.proofs.Laws.{Left, start, step, finish}
use Rattle.board_lent.specs.Calls.{of_row}
use Rattle.pbn_texts.specs.Calls.{is_kept, bid_bytes, note_bytes, pbn_call_bytes, pbn_calls_bytes}
use Rattle.pbn_texts.specs.Rows.{kept_row_text, placed_row, placed_rows}
use Rattle.pbn_texts.proofs.CallLaws.{calls_in, calls-front, calls-rest, call_dropped, call_long, calls-next}

-- The row of a call

module _ (s ns : List ℕ) (c : PbnCall) (at : ℕ) (t : Bool) (e : t ≡ is_kept c) where
  row-none : not t ≡ true → placed_row s ns at c ≡ []
  unfolding placed_row
  row-none f = simp (← e, not-true t f)

  -- nothing is stored for a call that is dropped
  pub row_dropped : not t ≡ true → {rows : List ℕ} {r : ℕ} → Room rows r (placed_row s ns at c)
      → Put rows r (placed_row s ns at c) rows r × (at ≡ at + length (pbn_call_bytes s ns c))
  row_dropped f {rows} {r} h =
      let z = ap length (call_dropped s ns c t e f) in
      (subst (λ (x : List ℕ). Put rows r x rows r) (sym (row-none f)) (finish (start (subst (λ (x : List ℕ). Room rows r x) (row-none f) h))), omega arith)

  module _ (f : not t ≡ false) (fits : at + length (pbn_call_bytes s ns c) ≤ limit) (b : ℕ) (eb : b ≡ length (bid_bytes c)) (n : ℕ) (en : n ≡ sat (length (note_bytes s ns c))) where
    note-is : n ≡ length (note_bytes s ns c)
    note-is = omega (arith, call_long s ns c t e f)

    -- the place after the texts
    pub row-after : at + b + n ≡ at + length (pbn_call_bytes s ns c)
    row-after = omega (arith, call_long s ns c t e f, note-is)

    pub row_kept : kept_row_text at b (at + b) n ≡ placed_row s ns at c
    unfolding placed_row
    row_kept = rw (eb, note-is) (sym (simp (← e, not-false t f)))

-- The rows of the calls from row k on: its row, and the others; past the last row, none

module _ (s ns : List ℕ) (rs : List (List ℕ)) (k at : ℕ) where
  rows_next : k < length rs → (c : PbnCall) → c ≡ of_row pbn_row (get_or rs k [])
      → placed_rows s ns at (calls_in (drop k rs)) ≡ placed_row s ns at c ++ placed_rows s ns (at + length (pbn_call_bytes s ns c)) (calls_in (drop (k + 1) rs))
  unfolding placed_rows
  rows_next h c e = rw (calls-front rs k h, e) refl

  rows_none : length rs ≤ k → placed_rows s ns at (calls_in (drop k rs)) ≡ []
  unfolding placed_rows
  rows_none h = rw (calls-rest rs k h) refl

  module _ {d : List ℕ} {pos : ℕ} {d₀ : List ℕ} {at₀ : ℕ} {whole : List ℕ} (l : Left d pos (placed_rows s ns at (calls_in (drop k rs))) d₀ at₀ whole) where
    pub row-left : k < length rs → (c : PbnCall) → c ≡ of_row pbn_row (get_or rs k [])
        → Left d pos (placed_row s ns at c ++ placed_rows s ns (at + length (pbn_call_bytes s ns c)) (calls_in (drop (k + 1) rs))) d₀ at₀ whole
    row-left h c e = rw (rows_next h c e) at l

    pub row_step : k < length rs → (c : PbnCall) → c ≡ of_row pbn_row (get_or rs k []) → {d' : List ℕ} {pos' : ℕ} (at' : ℕ) → Put d pos (placed_row s ns at c) d' pos' → at' ≡ at + length (pbn_call_bytes s ns c)
        → Left d' pos' (placed_rows s ns at' (calls_in (drop (k + 1) rs))) d₀ at₀ whole
    row_step h c e {d'} {pos'} at' p m =
        subst (λ (a : ℕ). Left d' pos' (placed_rows s ns a (calls_in (drop (k + 1) rs))) d₀ at₀ whole) (sym m) (step (row-left h c e) p)

    pub no_row-left : length rs ≤ k → Left d pos [] d₀ at₀ whole
    no_row-left h = rw (rows_none h) at l

  -- the texts of the call of row k, and of those after it, end within the limit
  module _ (fits : at + length (pbn_calls_bytes s ns (calls_in (drop k rs))) ≤ limit) (h : k < length rs) (c : PbnCall) (e : c ≡ of_row pbn_row (get_or rs k [])) where
    pub fits_here : at + length (pbn_call_bytes s ns c) ≤ limit
    fits_here = omega (arith, ap length (calls-next s ns rs k h c e), length-append (pbn_call_bytes s ns c) (pbn_calls_bytes s ns (calls_in (drop (k + 1) rs))))

    pub fits_next : (at' : ℕ) → at' ≡ at + length (pbn_call_bytes s ns c) → at' + length (pbn_calls_bytes s ns (calls_in (drop (k + 1) rs))) ≤ limit
    fits_next at' m = omega (arith, ap length (calls-next s ns rs k h c e), length-append (pbn_call_bytes s ns c) (pbn_calls_bytes s ns (calls_in (drop (k + 1) rs))))
