-- Laws of the kept calls and cards: one at a time, by the tests that are made of them. (01: From PBN)
-- Assumes nothing.
use Prim.Native.Nat.{ℕ, suc, ◌+◌, ◌/◌, ◌≤◌, ◌<◌}
use native.Mathlib.Numerals.{add-one}
use native.Mathlib.Omega.{arith}
use mathlib.Core.Path.{◌≡◌, refl, ap, sym, subst, ◌∙◌}
use mathlib.Core.Bool.{Bool, true, false, ◌||◌, not, cond}
use mathlib.Core.List.{List, [], ◌∷◌, ◌++◌, map, append-nil}
use lib.ListN.{length, get_or, drop, drop_of_length-le, length-append}
use lib.Seq.{drop-cons}
use lib.Dec.{eqb}
use Rattle.std.specs.List.{filter}
use Rattle.std.specs.Simd.{first_chunks}
use borrow.Author.Tests.{not-true, not-false, eq-eqb, ne_eqb}
use Rattle.lin_spec.specs.Base.{pick, any, keep}
use Rattle.lin_spec.specs.Refusals.{sat}
use Rattle.lin_spec.specs.Pbn.{gap, pbn_row, pbn_rows, kept_cards, bad_call}
use Rattle.lin_spec.specs.declared.PbnCall.{PbnCall}
use Rattle.lin_spec.proofs.Base.{or_none, keep_cons}
use Rattle.output.specs.Put.{Room}
use Rattle.output.proofs.Laws.{Left, start}
use Rattle.board_lent.specs.Calls.{of_row}
use Rattle.board_lent.proofs.LentLaws.{rows-chunks}
use Rattle.pbn_texts.specs.Calls.{kept_letter, is_kept, kept_many, bid_bytes, note_bytes, pbn_call_bytes, pbn_calls_bytes}

-- Cards

pub card-gap : (b : ℕ) → b ≡ 255 → kept_letter b ≡ []
card-gap b e = simp (eq-eqb b 255 e)

module _ (ps : List ℕ) (i : ℕ) where
  cards-from : i < length ps → kept_cards (drop i ps) ≡ kept_letter (get_or ps i 0) ++ kept_cards (drop (i + 1) ps)
  cards-from h = rw (add-one i, drop-cons ps i 0 h) (keep_cons (λ (b : ℕ). not (eqb b gap)) (get_or ps i 0) (drop (suc i) ps))

  pub cards-end : length ps ≤ i → kept_cards (drop i ps) ≡ []
  unfolding keep
  cards-end h = rw (drop_of_length-le ps h) refl

  pub cards-left : i < length ps → {d : List ℕ} {pos : ℕ} {d₀ : List ℕ} {at : ℕ} {whole : List ℕ}
      → Left d pos (kept_cards (drop i ps)) d₀ at whole → Left d pos (kept_letter (get_or ps i 0) ++ kept_cards (drop (i + 1) ps)) d₀ at whole
  cards-left h l = rw (cards-from h) at l

-- How many calls

-- the calls of rows
abbrev pub calls_in : List (List ℕ) → List PbnCall
calls_in rs = map (of_row pbn_row) rs

pub calls-are : (ws : List ℕ) (rs : List (List ℕ)) → rs ≡ first_chunks 6 (length ws / 6) ws → calls_in rs ≡ pbn_rows ws
calls-are ws rs e = ap calls_in e ∙ sym (rows-chunks pbn_row ws)

pub calls-front : (rs : List (List ℕ)) (k : ℕ) → k < length rs → calls_in (drop k rs) ≡ of_row pbn_row (get_or rs k []) ∷ calls_in (drop (k + 1) rs)
calls-front rs k h = rw (add-one k, drop-cons rs k [] h) refl

pub calls-rest : (rs : List (List ℕ)) (k : ℕ) → length rs ≤ k → calls_in (drop k rs) ≡ []
calls-rest rs k h = rw (drop_of_length-le rs h) refl

pub many-kept : (rs : List (List ℕ)) → length (filter (λ r. is_kept (of_row pbn_row r)) rs) ≡ kept_many (calls_in rs)
unfolding kept_many
many-kept [] = refl
many-kept (r ∷ rs) = go (is_kept (of_row pbn_row r)) (many-kept rs)
  where
    go : (t : Bool) → length (filter (λ r. is_kept (of_row pbn_row r)) rs) ≡ kept_many (calls_in rs)
        → length (cond t (r ∷ filter (λ r. is_kept (of_row pbn_row r)) rs) (filter (λ r. is_kept (of_row pbn_row r)) rs)) ≡ pick t 1 0 + kept_many (calls_in rs)
    go true ih = omega arith
    go false ih = omega arith

pub keep-filter : (f : ℕ → Bool) (s : List ℕ) → filter f s ≡ keep f s
unfolding keep
keep-filter f [] = refl
keep-filter f (b ∷ s) = go (f b) (keep-filter f s)
  where
    go : (t : Bool) → filter f s ≡ keep f s → cond t (b ∷ filter f s) (filter f s) ≡ pick t (b ∷ keep f s) (keep f s)
    go true ih = ap (λ (r : List ℕ). b ∷ r) ih
    go false ih = ih

-- Bids

module _ (c : PbnCall) where
  pub bid-none : (c.kind ≡ 0 → ⊥) → (c.kind ≡ 1 → ⊥) → (c.kind ≡ 2 → ⊥) → (c.kind ≡ 3 → ⊥) → bid_bytes c ≡ []
  bid-none h k l m = simp (ne_eqb c.kind 0 h, ne_eqb c.kind 1 k, ne_eqb c.kind 2 l, ne_eqb c.kind 3 m)

  -- Annotations
  pub note-none : (s ns : List ℕ) → c.annotated ≡ 0 → note_bytes s ns c ≡ []
  note-none s ns e = simp (eq-eqb c.annotated 0 e)

-- The texts of a call

module _ (s ns : List ℕ) (c : PbnCall) (t : Bool) (e : t ≡ is_kept c) where
  pub call_dropped : not t ≡ true → pbn_call_bytes s ns c ≡ []
  unfolding pbn_call_bytes
  call_dropped f = simp (← e, not-true t f)

  call_kept : not t ≡ false → pbn_call_bytes s ns c ≡ bid_bytes c ++ note_bytes s ns c
  unfolding pbn_call_bytes
  call_kept f = simp (← e, not-false t f)

  pub call-start : not t ≡ false → {d : List ℕ} {at : ℕ} → Room d at (pbn_call_bytes s ns c) → Left d at (bid_bytes c ++ (note_bytes s ns c ++ [])) d at (pbn_call_bytes s ns c)
  call-start f {d} {at} r =
      subst (λ (x : List ℕ). Left d at x d at (pbn_call_bytes s ns c)) (call_kept f ∙ ap (λ (x : List ℕ). bid_bytes c ++ x) (sym (append-nil (note_bytes s ns c)))) (start r)

  pub call_long : not t ≡ false → length (pbn_call_bytes s ns c) ≡ length (bid_bytes c) + length (note_bytes s ns c)
  call_long f = ap length (call_kept f) ∙ length-append (bid_bytes c) (note_bytes s ns c)

-- The calls of the rows from row k on: its call, and the others; past the last row, none

module _ (s ns : List ℕ) (rs : List (List ℕ)) (k : ℕ) where
  pub calls-next : k < length rs → (c : PbnCall) → c ≡ of_row pbn_row (get_or rs k []) → pbn_calls_bytes s ns (calls_in (drop k rs)) ≡ pbn_call_bytes s ns c ++ pbn_calls_bytes s ns (calls_in (drop (k + 1) rs))
  unfolding pbn_calls_bytes
  calls-next h c e = rw (calls-front rs k h, e) refl

  calls-none : length rs ≤ k → pbn_calls_bytes s ns (calls_in (drop k rs)) ≡ []
  unfolding pbn_calls_bytes
  calls-none h = rw (calls-rest rs k h) refl

  -- what is left to write
  module _ {d : List ℕ} {pos : ℕ} {d₀ : List ℕ} {at : ℕ} {whole : List ℕ} (l : Left d pos (pbn_calls_bytes s ns (calls_in (drop k rs))) d₀ at whole) where
    pub call-left : k < length rs → (c : PbnCall) → c ≡ of_row pbn_row (get_or rs k []) → Left d pos (pbn_call_bytes s ns c ++ pbn_calls_bytes s ns (calls_in (drop (k + 1) rs))) d₀ at whole
    call-left h c e = rw (calls-next h c e) at l

    pub none_left : length rs ≤ k → Left d pos [] d₀ at whole
    none_left h = rw (calls-none h) at l

  -- what is left to count
  module _ (n whole : ℕ) (l : sat (n + length (pbn_calls_bytes s ns (calls_in (drop k rs)))) ≡ sat whole) where
    pub count-call : k < length rs → (c : PbnCall) → c ≡ of_row pbn_row (get_or rs k []) → (x n' : ℕ) → x ≡ sat (length (pbn_call_bytes s ns c)) → n' ≡ sat (n + x)
        → sat (n' + length (pbn_calls_bytes s ns (calls_in (drop (k + 1) rs)))) ≡ sat whole
    count-call h c e x n' f g = omega (arith, ap length (calls-next h c e) ∙ length-append (pbn_call_bytes s ns c) (pbn_calls_bytes s ns (calls_in (drop (k + 1) rs))))

    pub count_none : n ≡ sat n → length rs ≤ k → n ≡ sat whole
    count_none m h = omega (arith, ap length (calls-none h))

-- the call of row k is sound where all from there on are, and so are the others
pub sound-next : (rs : List (List ℕ)) (k : ℕ) → any bad_call (calls_in (drop k rs)) ≡ false → k < length rs → (c : PbnCall) → c ≡ of_row pbn_row (get_or rs k [])
    → (bad_call c ≡ false) × (any bad_call (calls_in (drop (k + 1) rs)) ≡ false)
unfolding any
sound-next rs k v h c e =
    let z : (bad_call c || any bad_call (calls_in (drop (k + 1) rs))) ≡ false = rw e (rw (calls-front rs k h) at v) in
    or_none (bad_call c) (any bad_call (calls_in (drop (k + 1) rs))) z
