-- Laws of reading a board into rows of calls as structs: its calls stored, and what the entries give. (01: Board; File)
-- Assumes nothing.
use Rattle.std.specs.Prelude.{Err, Ok}
use Prim.Native.Nat.{ℕ, zero, suc, ◌+◌, ◌≤◌, ◌<◌, ◌^◌}
use native.Mathlib.Numerals.{add-one}
use native.Mathlib.Omega.{arith}
use mathlib.Core.Path.{◌≡◌, refl, ap, sym, subst, ◌∙◌}
use mathlib.Core.List.{List, [], ◌∷◌, ◌++◌, map}
use lib.ListN.{length, take, drop, get_or, set, length-take, drop_of_length-le}
use lib.Seq.{drop-cons}
use Rattle.lin_spec.specs.Board.{CallOf, BoardOf, board_from}
use Rattle.lin_spec.specs.Refusals.{Answer}
use Rattle.lin_spec.specs.Output.{overlay}
use Rattle.lin_spec.specs.declared.Refusal.{Refusal}
use Rattle.lin_spec.specs.Reading.{stream, heading_of}
use Rattle.lin_spec.specs.declared.Span.{Span}
use Rattle.lin_spec.specs.declared.Heading.{Heading}
use Rattle.board_loop.specs.Calls.{calls_from}
use Rattle.board_loop.specs.Head.{board_at}
use Rattle.board.proofs.ReaderLaws.{calls_are}
use Rattle.rows.specs.declared.CallRow.{CallRow}
use Rattle.rows_steps.specs.declared.steps.Headed.{Headed}
use Rattle.rows.specs.Rows.{called, row_in, empty_row, laid_over}
use Rattle.rows_steps.specs.Steps.{StepsTo, HeadsBy}
use Rattle.rows_reader.specs.Reader.{RowReading, stored_rows}
use Rattle.rows.proofs.Laws.{front, laid_at, laid-start, laid_more, laid_none}

-- Calls stored: i of n are, the others stand from `at` on, and zs is the list

abbrev pub Storing : (s : List ℕ) (start n : ℕ) (ys : List CallRow) (i at : ℕ) (zs : List CallRow) → Type 0
Storing s start n ys i at zs =
    (calls_from s (stream s at) ≡ drop i (board_at s start).calls) × (laid_at i (map row_in (drop i (take n (board_at s start).calls))) zs ≡ laid_over (map row_in (take n (board_at s start).calls)) ys)

pub store-start : (s : List ℕ) (start n : ℕ) (ys : List CallRow) → Storing s start n ys 0 start ys
unfolding board_from
store-start s start n ys = (sym (calls_are s (stream s start)), laid-start (map row_in (take n (board_at s start).calls)) ys)

module _ (s : List ℕ) (start n : ℕ) (ys : List CallRow) (i at : ℕ) (zs : List CallRow) (h : Storing s start n ys i at zs) (le : n ≤ length (board_at s start).calls) where
  pub store-more : i < n → (r : CallRow × ℕ) → StepsTo s at r → Storing s start n ys (i + 1) r.1 (set zs i r.0)
  store-more l r g =
      let k = (board_at s start).calls in
      let c = get_or k i (called empty_row) in
      let f : drop i k ≡ c ∷ drop (i + 1) k = drop-cons k i (called empty_row) (omega arith) ∙ ap (λ (m : ℕ). c ∷ drop m k) (sym (add-one i)) in
      let e = g.next c (drop (i + 1) k) (h.0 ∙ f) in
      let w : drop i (take n k) ≡ c ∷ drop (i + 1) (take n k) = front k n i (called empty_row) (omega arith) in (
        e.1,
        laid_more i r.0 (map row_in (drop (i + 1) (take n k))) zs
            ∙ ap (λ (x : CallRow). laid_at i (x ∷ map row_in (drop (i + 1) (take n k))) zs) e.0
            ∙ ap (λ (cs : List (CallOf Span)). laid_at i (map row_in cs) zs) (sym w)
            ∙ h.1,
      )

  pub store-end : n ≤ i → zs ≡ laid_over (map row_in (take n (board_at s start).calls)) ys
  store-end l =
      let k = (board_at s start).calls in
      let past : length (take n k) ≤ i = omega (arith, length-take n k) in
      sym (laid_none i zs) ∙ ap (λ (cs : List (CallOf Span)). laid_at i (map row_in cs) zs) (sym (drop_of_length-le (take n k) past)) ∙ h.1

-- those of the first n rows that they are stored in
pub laid-part : {A : Type 0} (n : ℕ) (xs ys : List A) → length xs ≤ n → laid_over xs (take n ys) ++ drop n ys ≡ laid_over xs ys
unfolding laid_over
laid-part {A} zero [] ys h = refl
laid-part {A} zero (x ∷ xs) ys h = absurd (let z : ⊥ = omega arith in z)
laid-part {A} (suc n) [] [] h = refl
laid-part {A} (suc n) [] (y ∷ ys) h = ap (λ (l : List A). y ∷ l) (laid-part n [] ys (omega arith))
laid-part {A} (suc n) (x ∷ xs) [] h = refl
laid-part {A} (suc n) (x ∷ xs) (y ∷ ys) h = ap (λ (l : List A). x ∷ l) (laid-part n xs ys (omega arith))

-- What an entry gives: the heading, and its calls stored in the rows, or a refusal

reading : Heading → List CallRow → List ℕ → RowReading
reading x rows cards = record { heading = Ok x; rows = rows; cards = cards }

cong : (x x' : Heading) → x ≡ x' → (rows rows' : List CallRow) → rows ≡ rows' → (cards cards' : List ℕ) → cards ≡ cards' → reading x rows cards ≡ reading x' rows' cards'
cong x x' e rows rows' f cards cards' g = ap (λ (y : Heading). reading y rows cards) e ∙ ap (λ (y : List CallRow). reading x' y cards) f ∙ ap (λ (y : List ℕ). reading x' rows' y) g

module _ (s : List ℕ) (a : Answer (BoardOf Span)) (rows : List CallRow) (cards cards' : List ℕ) (v : Answer Headed) (g : HeadsBy s a (length rows) cards v cards') where
  taken : (w : Answer Headed) → v ≡ w → HeadsBy s a (length rows) cards w cards'
  taken w e = subst (λ (x : Answer Headed). HeadsBy s a (length rows) cards x cards') e g

  -- what the entry rests on
  module _ (h : Headed) (is : v ≡ Ok h) where
    pub heads-fit : (h.heading.calls ≤ length rows) × (h.heading.calls ≤ length (board_at (take h.stop s) h.start).calls) × (0 < h.heading.calls → (h.stop ≤ length s) × (length s < 2 ^ 32))
    heads-fit = let k = (taken (Ok h) is).1.1 in (k.fit, k.many, λ _. k.within)

    pub rows-read : (rows' : List CallRow) → rows' ≡ laid_over (map row_in (take h.heading.calls (board_at (take h.stop s) h.start).calls)) rows
        → record { heading = Ok h.heading; rows = rows'; cards = cards' } ≡ stored_rows a rows cards
    unfolding reading
    rows-read rows' er =
        let b = (taken (Ok h) is).0 in
        let k = (taken (Ok h) is).1.1 in
        let q : rows' ≡ laid_over (map row_in b.calls) rows = er ∙ ap (λ (cs : List (CallOf Span)). laid_over (map row_in cs) rows) k.calls in
        cong h.heading (heading_of b) k.heading rows' (laid_over (map row_in b.calls) rows) q cards' (overlay cards 0 b.play) k.stored
        ∙ ap (λ (x : Answer (BoardOf Span)). stored_rows x rows cards) (sym (taken (Ok h) is).1.0)

  pub rows-refused : (r : Refusal) → v ≡ Err r → (x : Answer Heading) → x ≡ Err r → record { heading = x; rows = rows; cards = cards' } ≡ stored_rows a rows cards
  rows-refused r is x ex =
      let k = taken (Err r) is in
      ap (λ (y : Answer Heading). record { heading = y; rows = rows; cards = cards' }) ex
      ∙ ap (λ (y : List ℕ). record { heading = Err r; rows = rows; cards = y }) k.1
      ∙ ap (λ (y : Answer (BoardOf Span)). stored_rows y rows cards) (sym k.0)
