-- Steps over a file from its first byte: they give each board once, by its number, and end; a step that reads gives what reading by that number gives;
-- and the first refusal by 2 carries the text's own longest well-formed start. (01: File; Eight refusals, 2)
-- Assumes nothing.
use Rattle.lin_spec.specs.declared.Heading.{Heading}
use Rattle.std.specs.Prelude.{Option, None, Some, Err, Ok}
use Prim.Native.Nat.{ℕ, zero, suc, ◌+◌, ◌-◌, ◌/◌, ◌≤◌, ◌<◌}
use native.Mathlib.Nat.{not-suc-le-zero, le_of_suc-le-suc}
use native.Mathlib.Omega.{arith}
use mathlib.Core.Path.{◌≡◌, refl, ap, sym, subst, ◌∙◌}
use mathlib.Core.Bool.{Bool, true, false, not, false≢true}
use mathlib.Core.List.{List, [], ◌∷◌}
use lib.ListN.{length, drop, get_or, length-drop, length-map, drop_of_length-le}
use lib.Seq.{get_or-drop, drop-drop, take-length}
use lib.Dec.{ltb}
use borrow.Author.Tests.{ltb-false, not-false, lt-leb, le-ltb}
use Rattle.lin_spec.specs.Base.{pick, ascii}
use Rattle.lin_spec.specs.Records.{limit, part}
use Rattle.lin_spec.specs.Utf8.{utf8, longest}
use Rattle.lin_spec.specs.Refusals.{Answer, refuse_if, unless, too_long, not_utf8, sat}
use Rattle.lin_spec.specs.Reading.{stream, Reading, few_rows, stored}
use Rattle.lin_spec.specs.File.{Section, section, holds, sections, boards_of, board_in, file_spans, no_board, numbered, file_board, Standing, Visit, remaining, first_of, after, visit, next_board, open_boards}
use Rattle.lin_spec.specs.File.{looked_at, not_utf8_from, few_in, ReadStep, unread, read_by, read_step}
use Rattle.lin_spec.specs.File.Visit.{found, ended}
use Rattle.lin_spec.specs.declared.Refusal.{Refusal}
use Rattle.lin_spec.specs.declared.Refusal.TheVariants.{TextTooLong, NotUtf8, TooFewRows}
use Rattle.lin_spec.specs.declared.RowKind.TheVariants.{Calls, Cards}
use Rattle.lin_spec.proofs.Base.{split}
use Rattle.lin_spec.proofs.Checks.{unmet, unless-same}
use Rattle.lin_spec.proofs.Utf8.{utf8-ascii, longest_most, whole-text}
use Rattle.lin_spec.proofs.Document.{Opened}
use Rattle.lin_spec.proofs.File.{Found, Visits, visits, all_remain}
use Rattle.lin_spec.proofs.FileMeaning.{get_d_map}
use Rattle.lin_spec.proofs.Steps.{Next, next-is, front-board, front-other, bounded, bounded-section, bounded-utf8, bounded-longest, bounded-past, bounded-whole}

-- A cursor on its way through a file that was opened: the boards that remain are the file's from its number on, and the text from its place on is UTF-8.

pub record OnWay (s : List ℕ) (c : Standing) : Type 0 where
  pub boards : boards_of (remaining s c) ≡ drop c.number (boards_of (sections s))
  pub most : c.number ≤ length (boards_of (sections s))
  pub small : c.number ≤ c.at
  pub within : c.at ≤ length s + 1
  pub good : utf8 (drop c.at s) ≡ true

module _ (s : List ℕ) (o : Opened s) where
  abbrev all : List Section
  all = boards_of (sections s)

  way_begin : OnWay s (record { at = 0; number = 0; lines = not (holds (ascii "qx") (stream s 0)) })
  way_begin = record { boards = ap boards_of (all_remain s); most = omega arith; small = omega arith; within = omega arith; good = o.good }

  -- a section is passed
  module _ (c : Standing) (w : OnWay s c) (p : Section) (d : Standing) (e : d ≡ after c p) (h : c.at < d.at) (m : d.at ≤ length s + 1) (g : utf8 (drop d.at s) ≡ true) where
    numbers : d.number ≡ pick p.board (sat (c.number + 1)) c.number
    numbers = ap (λ (x : Standing). x.number) e

    way_other : p.board ≡ false → boards_of (remaining s c) ≡ boards_of (remaining s d) → OnWay s d
    way_other b f =
        let n : d.number ≡ c.number = numbers ∙ simp b in
        let x = w.most in
        let y = w.small in
        record { boards = sym f ∙ w.boards ∙ ap (λ (k : ℕ). drop k all) (sym n); most = omega arith; small = omega arith; within = m; good = g }

    number_more : p.board ≡ true → d.number ≡ c.number + 1
    number_more b = let x = w.small in let y = w.within in let z = o.short in numbers ∙ simp b (omega arith)

    way_board : p.board ≡ true → boards_of (remaining s c) ≡ p ∷ boards_of (remaining s d) → OnWay s d
    way_board b f =
        let n = number_more b in
        let x = w.small in
        let r : drop c.number all ≡ p ∷ boards_of (remaining s d) = sym w.boards ∙ f in
        let l : length all - c.number ≡ suc (length (boards_of (remaining s d))) = sym (length-drop c.number all) ∙ ap length r in
        record { boards = ap (drop 1) (sym r) ∙ drop-drop 1 c.number all ∙ ap (λ (k : ℕ). drop k all) (sym n); most = omega arith; small = omega arith; within = m; good = g }

  way_section : (c : Standing) → OnWay s c → (n : ℕ) (p : Section) (d : Standing) → Found s c n p d → OnWay s d
  way_section c w n p d f = go p.board refl
    where
      g : utf8 (drop d.at s) ≡ true
      g = (bounded-utf8 s c.at _ d.at (bounded-section s c n p d f) w.good).1

      go : (t : Bool) → p.board ≡ t → OnWay s d
      go true b = way_board c w p d f.cursor f.later f.within g b (front-board s c n p d f b)
      go false b = way_other c w p d f.cursor f.later f.within g b (front-other s c n p d f b)

  way_next : (c : Standing) → OnWay s c → (n : ℕ) (p : Section) (d : Standing) → Next s c n p d → OnWay s d
  way_next c w n p d f =
      way_board c w p d f.cursor f.later f.within (bounded-utf8 s c.at _ d.at (bounded s c n p d f) w.good).1 f.board f.front

  next-number : (c : Standing) → OnWay s c → (n : ℕ) (p : Section) (d : Standing) → Next s c n p d → d.number ≡ c.number + 1
  next-number c w n p d f =
      number_more c w p d f.cursor f.later f.within (bounded-utf8 s c.at _ d.at (bounded s c n p d f) w.good).1 f.board

-- What a step that reads gives, as a reading

abbrev pub heading_by : {A : Type 0} → Answer A → Heading → Answer Heading
heading_by (Err r) h = Err r
heading_by (Ok x) h = Ok h

abbrev pub reading_of : ReadStep → Reading
reading_of t = record { heading = heading_by t.answer (record { board = t.board; calls = t.calls; cards = t.play }); rows = t.rows; cards = t.cards }

-- by the checks that are left
read_is : (s : List ℕ) (c : Standing) (n : ℕ) (p : Section) (d : Standing) (rows cards : List ℕ) (cs : List (Option Refusal))
    → reading_of (read_by s c (unless cs (found n p d)) rows cards) ≡ stored (unless cs (board_in s p)) rows cards
unfolding unless
read_is s c n p d rows cards [] = refl
read_is s c n p d rows cards (None ∷ cs) = read_is s c n p d rows cards cs
read_is s c n p d rows cards (Some r ∷ cs) = refl

front_at : {A : Type 0} (l : List A) (k : ℕ) (x : A) (r : List A) (d : A) → drop k l ≡ x ∷ r → (k < length l) × (get_or l k d ≡ x)
front_at {A} l k x r d e =
    let n : length l - k ≡ suc (length r) = sym (length-drop k l) ∙ ap length e in
    let q : k + 0 ≡ k = omega arith in
    (omega arith, ap (λ (i : ℕ). get_or l i d) (sym q) ∙ sym (get_or-drop k l 0 d) ∙ ap (λ (y : List A). get_or y 0 d) e)

-- The cursors that steps lead to from another, steps by sections and steps to the next board in any order

pub data Reached (s : List ℕ) (a : Standing) : Standing → Type 0 where
  here : Reached s a a
  by-section : {c d : Standing} {n : ℕ} {p : Section} → Reached s a c → visit s c ≡ found n p d → Reached s a d
  by-board : {c d : Standing} {n : ℕ} {p : Section} → Reached s a c → next_board s c ≡ found n p d → Reached s a d

-- what opening says
opened-at : (s : List ℕ) (a : Standing) → open_boards s ≡ Ok a → Opened s
unfolding open_boards
opened-at s a e =
    let c : Standing = record { at = 0; number = 0; lines = not (holds (ascii "qx") (stream s 0)) } in
    let p = unmet (ltb limit (length s)) _ _ c a e in
    let q = unmet (not (utf8 s)) _ [] c a p.1 in
    record { short = ltb-false limit (length s) p.0; good = not-false (utf8 s) q.0 }

first-at : (s : List ℕ) (a : Standing) → open_boards s ≡ Ok a → a ≡ record { at = 0; number = 0; lines = not (holds (ascii "qx") (stream s 0)) }
unfolding open_boards
first-at s a e = sym (unless-same (too_long s ∷ not_utf8 s ∷ []) _ a e)

module _ (s : List ℕ) (a : Standing) (e : open_boards s ≡ Ok a) where
  o : Opened s
  o = opened-at s a e

  pub on_way : (c : Standing) → Reached s a c → OnWay s c
  on_way c here = subst (OnWay s) (sym (first-at s a e)) (way_begin s o)
  on_way d (by-section {c = c} {n = n} {p = p} r v) = way_section s o c (on_way c r) n p d (visits s c (found n p d) v)
  on_way d (by-board {c = c} {n = n} {p = p} r v) = way_next s o c (on_way c r) n p d (next-is s c (found n p d) v)

  -- the step that says a number gives the board that the file has by it
  pub board-by-number : (c : Standing) → Reached s a c → (n : ℕ) (p : Section) (d : Standing) → next_board s c ≡ found n p d
      → (n < length (boards_of (sections s))) × (get_or (boards_of (sections s)) n (section 0 0 false) ≡ p)
  board-by-number c r n p d v =
      let f = next-is s c (found n p d) v in
      front_at (boards_of (sections s)) n p (boards_of (remaining s d)) (section 0 0 false) (ap (λ (k : ℕ). drop k (boards_of (sections s))) f.number ∙ sym (on_way c r).boards ∙ f.front)

  -- and it reads what is read by that number: the same refusal, or the same board with the same rows and cards
  pub read-by-number : (c : Standing) → Reached s a c → (n : ℕ) (p : Section) (d : Standing) → next_board s c ≡ found n p d
      → (rows cards : List ℕ) → reading_of (read_step s c rows cards) ≡ file_board s n rows cards
  unfolding read_step file_board file_spans unless
  read-by-number c r n p d v rows cards =
      let is = board-by-number c r n p d v in
      let w = on_way c r in
      let f = next-is s c (found n p d) v in
      let b : numbered s n ≡ board_in s p = get_d_map (board_in s) (boards_of (sections s)) n (section 0 0 false) ∙ ap (board_in s) is.1 in
      let k : no_board n (length (file_spans s)) ≡ None = simp (lt-leb (length (file_spans s)) n (let i = is.0 in let z = length-map (boards_of (sections s)) (board_in s) in omega arith)) in
      let l : too_long s ≡ None = simp (le-ltb limit (length s) o.short) in
      let g : utf8 (part s c.at (p.stop - c.at)) ≡ true = (bounded-utf8 s c.at _ d.at (bounded s c n p d f) w.good).0 in
      let u : not_utf8_from c.at (part s c.at (p.stop - c.at)) ≡ None = simp g in
      let y : not_utf8 s ≡ None = simp o.good in
      rw (v, b, k, l, u, y) (read_is s c n p d rows cards (few_rows (board_in s p) rows cards))

  -- At the end there is none, which is no refusal, and the cursor stays.
  pub read-end : (c : Standing) → Reached s a c → next_board s c ≡ ended c → (rows cards : List ℕ) → read_step s c rows cards ≡ unread (Ok (ended c)) c rows cards
  unfolding read_step unless
  read-end c r v rows cards =
      let l : too_long s ≡ None = simp (le-ltb limit (length s) o.short) in
      let u : not_utf8_from c.at (drop c.at s) ≡ None = simp (on_way c r).good in
      rw (v, l, u) refl

-- Steps to the next board from a cursor on, the first of which says the number n: they give these boards, each with a number one higher, and then none.

pub data Walk (s : List ℕ) : (n : ℕ) → Standing → List Section → Type 0 where
  stop : {n : ℕ} {c : Standing} → next_board s c ≡ ended c → Walk s n c []
  step : {n : ℕ} {c : Standing} {p : Section} {d : Standing} {ps : List Section} → next_board s c ≡ found n p d → Walk s (n + 1) d ps → Walk s n c (p ∷ ps)

-- there are no others
walk-remaining : (s : List ℕ) (n : ℕ) (c : Standing) (ps : List Section) → Walk s n c ps → ps ≡ boards_of (remaining s c)
walk-remaining s n c [] (stop e) = sym (next-is s c (ended c) e).1
walk-remaining s n c (p ∷ ps) (step {d = d} e w) =
    let f = next-is s c (found n p d) e in
    ap (λ (l : List Section). p ∷ l) (walk-remaining s (n + 1) d ps w) ∙ sym f.front

-- a step that says the number n, from a cursor that steps lead to
pub record StepAt (s : List ℕ) (a : Standing) (n : ℕ) : Type 0 where
  pub cursor : Standing
  pub place : Section
  pub next : Standing
  pub reached : Reached s a cursor
  pub says : next_board s cursor ≡ found n place next

module _ (s : List ℕ) (a : Standing) (e : open_boards s ≡ Ok a) where
  walk-by : (ps : List Section) (c : Standing) → Reached s a c → boards_of (remaining s c) ≡ ps → Walk s c.number c ps
  unfolding next_board
  walk-by [] c r f = stop (ap (first_of c) f)
  walk-by (p ∷ ps) c r f =
      let v : next_board s c ≡ found c.number p (after c p) = ap (first_of c) f in
      let w = next-is s c (found c.number p (after c p)) v in
      let n = next-number s (o s a e) c (on_way s a e c r) c.number p (after c p) w in
      step v (subst (λ (k : ℕ). Walk s k (after c p) ps) n (walk-by ps (after c p) (by-board r v) (ap (drop 1) (sym w.front ∙ f))))

  first-number : a.number ≡ 0
  first-number = ap (λ (x : Standing). x.number) (first-at s a e)

  all-boards : boards_of (remaining s a) ≡ boards_of (sections s)
  all-boards = (on_way s a e a here).boards ∙ ap (λ (k : ℕ). drop k (boards_of (sections s))) first-number

  -- Stepping from the first byte gives each board once, numbered from 0, and ends; and it gives nothing else.
  pub walk : Walk s 0 a (boards_of (sections s))
  walk = subst (λ (k : ℕ). Walk s k a (boards_of (sections s))) first-number (walk-by (boards_of (sections s)) a here all-boards)

  pub walk-all : (n : ℕ) (ps : List Section) → Walk s n a ps → ps ≡ boards_of (sections s)
  walk-all n ps w = walk-remaining s n a ps w ∙ all-boards

  -- The same of the steps by sections: `Visits` ends, as well as that it gives the file's sections (`visits-all`).
  sections-by : (ps : List Section) (c : Standing) → remaining s c ≡ ps → Visits s c ps
  unfolding visit
  sections-by [] c f = Visits.stop (ap (first_of c) f)
  sections-by (p ∷ ps) c f =
      let v : visit s c ≡ found c.number p (after c p) = ap (first_of c) f in
      let w = visits s c (found c.number p (after c p)) v in
      Visits.step v (sections-by ps (after c p) (ap (drop 1) (sym w.front ∙ f)))

  pub visits_end : Visits s a (sections s)
  visits_end = sections-by (sections s) a (ap (remaining s) (first-at s a e) ∙ all_remain s)

  -- every number below the count is said by a step
  nth_step : (n : ℕ) (c : Standing) (ps : List Section) → Walk s n c ps → Reached s a c → (k : ℕ) → k < length ps → StepAt s a (n + k)
  nth_step n c [] w r k h = absurd (not-suc-le-zero h)
  nth_step n c (p ∷ ps) (step {d = d} v w) r zero h =
      let q : n ≡ n + 0 = omega arith in
      record { cursor = c; place = p; next = d; reached = r; says = v ∙ ap (λ (i : ℕ). found i p d) q }
  nth_step n c (p ∷ ps) (step {d = d} v w) r (suc k) h =
      let q : n + 1 + k ≡ n + suc k = omega arith in
      subst (StepAt s a) q (nth_step (n + 1) d ps w (by-board r v) k (le_of_suc-le-suc h))

  pub each_number : (n : ℕ) → n < length (boards_of (sections s)) → StepAt s a n
  each_number n h = let q : 0 + n ≡ n = omega arith in subst (StepAt s a) q (nth_step 0 a (boards_of (sections s)) walk here n h)

-- The first 2 of a walk from the first byte. The text may be any bytes, the number and the kind of sections any; each step before was accepted.

pub data Read (s : List ℕ) : Standing → Type 0 where
  begin : (number : ℕ) (lines : Bool) → Read s (record { at = 0; number = number; lines = lines })
  on : {c d : Standing} {n : ℕ} {p : Section} (rows cards : List ℕ) → Read s c → (read_step s c rows cards).answer ≡ Ok (found n p d) → Read s d

module _ (s : List ℕ) (c : Standing) (rows cards : List ℕ) where
  abbrev pub checked : Answer Visit
  checked = unless (too_long s ∷ not_utf8_from c.at (looked_at s c (next_board s c)) ∷ few_in s (next_board s c) rows cards) (next_board s c)

  pub answer-is : (read_step s c rows cards).answer ≡ checked
  unfolding read_step
  answer-is = go checked
    where
      go : (x : Answer Visit) → (read_by s c x rows cards).answer ≡ x
      go (Err r) = refl
      go (Ok (found n p d)) = refl
      go (Ok (ended d)) = refl

  -- an accepted step gives the next board, and the bytes that it looked at are UTF-8
  pub accepted_step : (v : Visit) → (read_step s c rows cards).answer ≡ Ok v → (next_board s c ≡ v) × (utf8 (looked_at s c v) ≡ true)
  accepted_step v e =
      let h = sym answer-is ∙ e in
      let p = unmet (ltb limit (length s)) _ _ (next_board s c) v h in
      let q = unmet (not (utf8 (looked_at s c (next_board s c)))) _ _ (next_board s c) v p.1 in
      let n = unless-same _ (next_board s c) v q.1 in
      (n, subst (λ (x : Visit). utf8 (looked_at s c x) ≡ true) n (not-false _ q.0))

  -- a step that 2 refuses looked at bytes that are not UTF-8
  pub ill_step : (k : ℕ) → (read_step s c rows cards).answer ≡ Err (NotUtf8 k)
      → (utf8 (looked_at s c (next_board s c)) ≡ false) × (k ≡ c.at + longest (looked_at s c (next_board s c)))
  unfolding unless
  ill_step k e = go (ltb limit (length s)) (utf8 (looked_at s c (next_board s c))) refl (next_board s c) (sym answer-is ∙ e)
    where
      few : (v w : Visit) → unless (few_in s v rows cards) w ≡ Err (NotUtf8 k) → ⊥
      few (found n p d) w h = two (ltb (length rows / 6) (length (board_in s p).calls)) (ltb (length cards) (length (board_in s p).play)) h
        where
          two : (t u : Bool) → unless (refuse_if t (TooFewRows Calls (length (board_in s p).calls)) ∷ refuse_if u (TooFewRows Cards (length (board_in s p).play)) ∷ []) w ≡ Err (NotUtf8 k) → ⊥
          two true u h = let z : ◌≡◌ {A = ℕ} 0 1 = cc in omega arith
          two false true h = let z : ◌≡◌ {A = ℕ} 0 1 = cc in omega arith
          two false false h = let z : ◌≡◌ {A = ℕ} 0 1 = cc in omega arith
      few (ended d) w h = let z : ◌≡◌ {A = ℕ} 0 1 = cc in omega arith

      go : (t g : Bool) → utf8 (looked_at s c (next_board s c)) ≡ g → (w : Visit)
          → unless (refuse_if t TextTooLong ∷ refuse_if (not g) (NotUtf8 (c.at + longest (looked_at s c (next_board s c)))) ∷ few_in s (next_board s c) rows cards) w ≡ Err (NotUtf8 k)
          → (utf8 (looked_at s c (next_board s c)) ≡ false) × (k ≡ c.at + longest (looked_at s c (next_board s c)))
      go true g f w h = let z : ◌≡◌ {A = ℕ} 0 1 = cc in absurd (omega arith)
      go false false f w h = (f, cc)
      go false true f w h = absurd (few (next_board s c) w h)

-- up to a cursor that accepted steps led to, the text is well formed
read_past : (s : List ℕ) (c : Standing) → Read s c → c.at ≤ length s → longest s ≡ c.at + longest (drop c.at s)
read_past s c (begin number lines) h = omega arith
read_past s d (on {c = c} {n = n} {p = p} rows cards r e) h =
    let v = accepted_step s c rows cards (found n p d) e in
    let f = next-is s c (found n p d) v.0 in
    let l = f.later in
    let ih = read_past s c r (omega arith) in
    let m = bounded-past s c.at _ d.at (bounded s c n p d f) v.1 l h in
    omega arith

pub first-ill : (s : List ℕ) (c : Standing) → Read s c → (rows cards : List ℕ) (k : ℕ) → (read_step s c rows cards).answer ≡ Err (NotUtf8 k) → k ≡ longest s
first-ill s c r rows cards k e =
    let i = ill_step s c rows cards k e in
    i.1 ∙ go (next_board s c) refl i.0
  where
    go : (v : Visit) → next_board s c ≡ v → utf8 (looked_at s c v) ≡ false → c.at + longest (looked_at s c v) ≡ longest s
    go (found n p d) v g =
        let f = next-is s c (found n p d) v in
        let x = f.starts in
        let y = f.begins in
        let z = f.stops in
        ap (λ (i : ℕ). c.at + i) (sym (bounded-longest s c.at _ d.at (bounded s c n p d f) g)) ∙ sym (read_past s c r (omega arith))
    go (ended d) v g =
        split c.at (length s) (λ l. sym (read_past s c r (omega arith)))
        (λ l. absurd (false≢true (sym g ∙ ap utf8 (drop_of_length-le s l) ∙ utf8-ascii [] tt)))

-- A refused step stores nothing, and hands the cursor back where it stood.
pub refused_step : (s : List ℕ) (c : Standing) (rows cards : List ℕ) (r : Refusal) → (read_step s c rows cards).answer ≡ Err r → read_step s c rows cards ≡ unread (Err r) c rows cards
unfolding read_step
refused_step s c rows cards r e = ap (λ (x : Answer Visit). read_by s c x rows cards) (sym (answer-is s c rows cards) ∙ e)

-- A walk from the first byte that ends without a refusal has looked at the whole text: it is UTF-8.

module _ (s : List ℕ) where
  whole_from : (a : ℕ) → a ≤ length s → longest s ≡ a + longest (drop a s) → utf8 (drop a s) ≡ true → utf8 s ≡ true
  whole_from a h e u =
      let n = length-drop a s in
      let l = longest_most (drop a s) (length (drop a s)) (omega arith) (ap utf8 (take-length (drop a s)) ∙ u) in
      whole-text s (longest s) refl (omega arith)

  -- past the end everything was looked at
  read_whole : (c : Standing) → Read s c → length s < c.at → utf8 s ≡ true
  read_whole c (begin number lines) h = absurd (let z : ⊥ = omega arith in z)
  read_whole d (on {c = c} {n = n} {p = p} rows cards r e) h =
      let v = accepted_step s c rows cards (found n p d) e in
      let f = next-is s c (found n p d) v.0 in
      let x = f.starts in
      let y = f.begins in
      let z = f.stops in
      let q : length s ≤ d.at = omega arith in
      whole_from c.at (omega arith) (read_past s c r (omega arith)) (bounded-whole s c.at _ d.at (bounded s c n p d f) v.1 (drop_of_length-le s q))

  pub walk-whole : (c : Standing) → Read s c → (rows cards : List ℕ) (d : Standing) → (read_step s c rows cards).answer ≡ Ok (ended d) → utf8 s ≡ true
  walk-whole c r rows cards d e =
      split (length s) c.at (λ h. read_whole c r h) (λ h. whole_from c.at h (read_past s c r h) (accepted_step s c rows cards (ended d) e).1)

-- A step that reads, with rows and places enough, gives what the step to the next board gives.

pub read-accepted : (s : List ℕ) (a : Standing) (e : open_boards s ≡ Ok a) (c : Standing) → Reached s a c → (n : ℕ) (p : Section) (d : Standing) → next_board s c ≡ found n p d
    → (rows cards : List ℕ) → length (board_in s p).calls ≤ length rows / 6 → length (board_in s p).play ≤ length cards → (read_step s c rows cards).answer ≡ Ok (found n p d)
unfolding unless
read-accepted s a e c r n p d v rows cards k m =
    let w = on_way s a e c r in
    let f = next-is s c (found n p d) v in
    let l : too_long s ≡ None = simp (le-ltb limit (length s) (o s a e).short) in
    let g : utf8 (part s c.at (p.stop - c.at)) ≡ true = (bounded-utf8 s c.at _ d.at (bounded s c n p d f) w.good).0 in
    let u : not_utf8_from c.at (part s c.at (p.stop - c.at)) ≡ None = simp g in
    answer-is s c rows cards ∙ rw (v, l, u) (simp (le-ltb (length rows / 6) (length (board_in s p).calls) k, le-ltb (length cards) (length (board_in s p).play) m))

-- For every number below the count: a step that says it, from a cursor that steps lead to, and that reads what is read by that number, whatever is lent.

pub record ReadAt (s : List ℕ) (a : Standing) (n : ℕ) : Type 0 where
  pub step : StepAt s a n
  pub reads : (rows cards : List ℕ) → reading_of (read_step s step.cursor rows cards) ≡ file_board s n rows cards
  pub enough : (rows cards : List ℕ) → length (board_in s step.place).calls ≤ length rows / 6 → length (board_in s step.place).play ≤ length cards
      → (read_step s step.cursor rows cards).answer ≡ Ok (found n step.place step.next)

pub reads_each : (s : List ℕ) (a : Standing) → open_boards s ≡ Ok a → (n : ℕ) → n < length (boards_of (sections s)) → ReadAt s a n
reads_each s a e n h =
    let t = each_number s a e n h in
    record {
      step = t;
      reads = λ rows cards. read-by-number s a e t.cursor t.reached n t.place t.next t.says rows cards;
      enough = λ rows cards k m. read-accepted s a e t.cursor t.reached n t.place t.next t.says rows cards k m;
    }
