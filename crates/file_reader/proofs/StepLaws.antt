-- Laws of a step that reads: 2 over the bytes that it looks at, and its answers by the checks. (01: File; Eight refusals, 2 and 3)
-- Assumes nothing.
use Rattle.std.specs.Prelude.{Option, None, Some, Err, Ok}
use Prim.Native.Nat.{ℕ, ◌+◌, ◌-◌, ◌≤◌, ◌<◌}
use native.Mathlib.Omega.{arith}
use mathlib.Core.Path.{◌≡◌, refl, ap, sym, ◌∙◌, subst}
use mathlib.Core.List.{List, [], ◌∷◌}
use lib.ListN.{length, take, drop, drop_of_length-le}
use borrow.Author.Tests.{lt-ltb, le-ltb}
use Rattle.lin_spec.specs.Records.{limit, part}
use Rattle.lin_spec.specs.Utf8.{longest}
use Rattle.lin_spec.specs.Refusals.{Answer, unless}
use Rattle.lin_spec.specs.Reading.{few_rows, Reading, stored}
use Rattle.lin_spec.specs.File.{board_in, Visit, next_board, not_utf8_from, ReadStep, read_by, read_step}
use Rattle.lin_spec.specs.File.Visit.{found, ended}
use Rattle.lin_spec.specs.declared.Heading.{Heading}
use Rattle.lin_spec.specs.declared.Refusal.{Refusal}
use Rattle.lin_spec.specs.declared.Refusal.TheVariants.{TextTooLong, NotUtf8}
use Rattle.lin_spec.proofs.Records.{part_length, part-rest}
use Rattle.lin_spec.proofs.Utf8.{short, whole-text, utf8-ascii}
use Rattle.lin_spec.proofs.Steps.{next-is}
use Rattle.lin_spec.proofs.Walk.{accepted_step}
use Rattle.board_loop.specs.Head.{board_at}
use Rattle.file_sections.specs.Sections.{section_of, standing_of, visit_by, visit_of, Inside}
use Rattle.file_sections.specs.declared.sections.Section.{Section}
use Rattle.file_sections.specs.declared.sections.BoardCursor.{BoardCursor}
use Rattle.file_sections.specs.declared.sections.BoardStep.{BoardStep}
use Rattle.file_reader.specs.Steps.{check_of, next_of, read_of, read_as, NoneLeft}
use Rattle.file_reader.specs.declared.steps.ReadBoard.{ReadBoard}
use Rattle.file_reader.specs.declared.steps.BoardRead.{BoardRead}

-- 2, by the length of the longest well-formed start

pub longest_of : (s : List ℕ) (at stop : ℕ) {n : ℕ} → n ≡ longest (take (stop - at) (drop at s)) → n ≡ longest (part s at (stop - at))
unfolding part
longest_of s at stop e = e

module _ (s : List ℕ) (at stop n : ℕ) (h : at ≤ stop) (l : stop ≤ length s) (e : n ≡ longest (part s at (stop - at))) where
  long : length (part s at (stop - at)) ≡ stop - at
  long = part_length s at (stop - at) (omega arith)

  pub check_ill : n < stop - at → Some (NotUtf8 (at + n)) ≡ not_utf8_from at (part s at (stop - at))
  check_ill k = let z = long in simp (short (part s at (stop - at)) n e (omega arith)) (ap (λ (i : ℕ). Some (NotUtf8 (at + i))) e)

  pub check_well : stop - at ≤ n → None ≡ not_utf8_from at (part s at (stop - at))
  check_well k = let z = long in simp (whole-text (part s at (stop - at)) n e (omega arith))

-- one check that meets the call, or does not, and then others

met : {A : Type 0} (x : Option Refusal) (cs : List (Option Refusal)) (a : A) (v : Answer Unit) → check_of v ≡ x → (r : Refusal) → v ≡ Err r → unless (x ∷ cs) a ≡ Err r
unfolding unless
met x cs a v e r f = let z : x ≡ Some r = sym e ∙ ap check_of f in rw z refl

unmet : {A : Type 0} (x : Option Refusal) (cs : List (Option Refusal)) (a : A) (v : Answer Unit) → check_of v ≡ x → v ≡ Ok tt → unless (x ∷ cs) a ≡ unless cs a
unfolding unless
unmet x cs a v e f = let z : x ≡ None = sym e ∙ ap check_of f in rw z refl

-- No board

module _ (s : List ℕ) (at : ℕ) where
  whole : (v : Answer Unit) → check_of v ≡ not_utf8_from at (part s at (length s - at)) → check_of v ≡ not_utf8_from at (drop at s)
  whole v e = e ∙ ap (not_utf8_from at) (part-rest s at (length s - at) (omega arith))

  pub none_met : (v : Answer Unit) → check_of v ≡ not_utf8_from at (part s at (length s - at)) → (r : Refusal) → v ≡ Err r
      → (a : Answer (Option ReadBoard)) → a ≡ Err r → NoneLeft s at a
  none_met v e r f a g = subst (NoneLeft s at) (sym g) (record { answer = λ c. sym (met _ [] (ended c) v (whole v e) r f); heading = refl })

  pub none_left : (v : Answer Unit) → check_of v ≡ not_utf8_from at (part s at (length s - at)) → v ≡ Ok tt → NoneLeft s at (Ok None)
  unfolding unless
  none_left v e f = record { answer = λ c. sym (unmet _ [] (ended c) v (whole v e) f); heading = refl }

  pub none_beyond : length s ≤ at → NoneLeft s at (Ok None)
  unfolding unless
  none_beyond h = record { answer = λ c. simp (drop_of_length-le s h, utf8-ascii [] tt); heading = refl }

-- A board

module _ (s : List ℕ) (at n : ℕ) (p : Section) (rows cards : List ℕ) (c d : BoardCursor) where
  abbrev v : Visit
  v = found n (section_of p) (standing_of d)

  abbrev few : List (Option Refusal)
  few = few_rows (board_in s (section_of p)) rows cards

  abbrev two : Option Refusal
  two = not_utf8_from at (part s at (p.stop - at))

  abbrev answer : List (Option Refusal) → ReadStep
  answer cs = read_by s (standing_of c) (unless cs v) rows cards

  module _ (t : Answer Unit) (e : check_of t ≡ two) where
    pub found-ill : (r : Refusal) → t ≡ Err r → (u : Answer ReadBoard) → u ≡ Err r → read_of (read_as c d u) rows cards ≡ answer (two ∷ few)
    found-ill r f u g =
        ap (λ (x : Answer ReadBoard). read_of (read_as c d x) rows cards) g
        ∙ ap (λ (a : Answer Visit). read_by s (standing_of c) a rows cards) (sym (met two few v t e r f))

    passes : t ≡ Ok tt → answer (two ∷ few) ≡ answer few
    passes f = ap (λ (a : Answer Visit). read_by s (standing_of c) a rows cards) (unmet two few v t e f)

    -- a board as it was read, or the refusal
    abbrev as_read : Answer Heading → Answer ReadBoard
    as_read (Ok h) = Ok (record { number = n; section = p; heading = h })
    as_read (Err r) = Err r

    -- what was stored
    stored-by : (cs : List (Option Refusal)) (h : Answer Heading) (rows' cards' : List ℕ)
        → ◌≡◌ {A = Reading} (record { heading = h; rows = rows'; cards = cards' }) (stored (unless cs (board_in s (section_of p))) rows cards)
        → read_of (read_as c d (as_read h)) rows' cards' ≡ answer cs
    unfolding unless
    stored-by [] h rows' cards' g = ap (λ (x : Reading). read_of (read_as c d (as_read x.heading)) x.rows x.cards) g
    stored-by (None ∷ cs) h rows' cards' g = stored-by cs h rows' cards' g
    stored-by (Some q ∷ cs) h rows' cards' g = ap (λ (x : Reading). read_of (read_as c d (as_read x.heading)) x.rows x.cards) g

    pub found-by : t ≡ Ok tt → (h : Answer Heading) (rows' cards' : List ℕ)
        → ◌≡◌ {A = Reading} (record { heading = h; rows = rows'; cards = cards' }) (stored (unless (few_rows (board_at (take p.stop s) p.start) rows cards) (board_at (take p.stop s) p.start)) rows cards)
        → (k : Answer Heading) → h ≡ k → (u : Answer ReadBoard) → u ≡ as_read k → read_of (read_as c d u) rows' cards' ≡ answer (two ∷ few)
    unfolding board_in
    found-by f h rows' cards' g k i u j =
        ap (λ (x : Answer ReadBoard). read_of (read_as c d x) rows' cards') (j ∙ ap as_read (sym i)) ∙ stored-by few h rows' cards' g ∙ sym (passes f)

-- The step

module _ (s : List ℕ) (c : BoardCursor) (rows cards : List ℕ) where
  pub step_long : limit < length s → read_of (record { board = Err TextTooLong; cursor = c }) rows cards ≡ read_step s (standing_of c) rows cards
  unfolding read_step unless
  step_long l = simp (lt-ltb limit (length s) l)

  module _ (l : length s ≤ limit) (r : BoardStep) (e : visit_of r ≡ next_board s (standing_of c)) where
    -- what the step that was taken apart is
    is : (f : Option (ℕ × Section)) → r.found ≡ f → visit_by f (standing_of r.cursor) ≡ next_board s (standing_of c)
    is f g = sym (ap (λ x. visit_by x (standing_of r.cursor)) g) ∙ e

    pub step_inside : (n : ℕ) (p : Section) → r.found ≡ Some (n, p) → (c.at ≤ p.start) × Inside s p
    step_inside n p g =
        let w = next-is s (standing_of c) (found n (section_of p) (standing_of r.cursor)) (sym (is _ g)) in
        (w.starts, record { begins = w.begins; stops = w.stops; short = omega arith })

    pub step_found : (n : ℕ) (p : Section) → r.found ≡ Some (n, p) → {t : ReadStep}
        → t ≡ read_by s (standing_of c) (unless (not_utf8_from c.at (part s c.at (p.stop - c.at)) ∷ few_rows (board_in s (section_of p)) rows cards) (found n (section_of p) (standing_of r.cursor))) rows cards
        → t ≡ read_step s (standing_of c) rows cards
    unfolding read_step unless
    step_found n p g {t} k = k ∙ sym (let z = sym (is _ g) in simp (z, le-ltb limit (length s) l))

    pub step_ended : r.found ≡ None → (a : Answer (Option ReadBoard)) → NoneLeft s c.at a
        → read_of (record { board = a; cursor = c }) rows cards ≡ read_step s (standing_of c) rows cards
    unfolding read_step unless
    step_ended g a k =
        let w = sym (is _ g) in
        let z : next_board s (standing_of c) ≡ ended (standing_of c) = w ∙ ap ended (next-is s (standing_of c) (ended (standing_of r.cursor)) w).0 in
        go (not_utf8_from c.at (drop c.at s)) (k.answer (standing_of c)) ∙ sym (simp (z, le-ltb limit (length s) l))
      where
        go : (y : Option Refusal) → next_of a (standing_of c) ≡ unless (y ∷ []) (ended (standing_of c))
            → read_of (record { board = a; cursor = c }) rows cards ≡ read_by s (standing_of c) (unless (y ∷ []) (ended (standing_of c))) rows cards
        go None q = let m = k.heading in rw (q, m) refl
        go (Some r) q = let m = k.heading in rw (q, m) refl

-- a walk by such steps ends: the cursor after a board stands further on, and not far beyond the text
pub step_later : (s : List ℕ) (c : BoardCursor) (rows cards rows' cards' : List ℕ) (r : BoardRead) → read_of r rows' cards' ≡ read_step s (standing_of c) rows cards
    → (b : ReadBoard) → r.board ≡ Ok (Some b) → (c.at < r.cursor.at) × (r.cursor.at ≤ length s + 1)
step_later s c rows cards rows' cards' r e b f =
    let v = found b.number (section_of b.section) (standing_of r.cursor) in
    let a = accepted_step s (standing_of c) rows cards v (sym (ap (λ (x : ReadStep). x.answer) e) ∙ ap (λ x. next_of x (standing_of r.cursor)) f) in
    let w = next-is s (standing_of c) v a.0 in
    (w.later, w.within)
