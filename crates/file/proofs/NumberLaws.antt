-- Laws of boards by number: what a cursor looks for, and what the entries give. (01: File)
-- Assumes nothing.
use Rattle.std.specs.Prelude.{Option, Err, Ok, Result}
use Prim.Native.Nat.{ℕ, suc, ◌-◌, ◌≤◌, ◌<◌}
use native.Mathlib.Omega.{arith}
use mathlib.Core.Path.{◌≡◌, refl, ap, sym, subst, ◌∙◌}
use mathlib.Core.Bool.{Bool, true, false, ◌&&◌}
use mathlib.Core.List.{List, [], ◌∷◌}
use lib.ListN.{length, get_or, take, length-map}
use lib.Dec.{eqb}
use borrow.Author.Tests.{eqb-true, eqb-false, le-leb, lt-leb}
use Rattle.lin_spec.specs.Refusals.{Answer, unless, too_long, not_utf8}
use Rattle.lin_spec.specs.Board.{BoardOf}
use Rattle.lin_spec.specs.Reading.{heading_of, headed, few_rows, Reading, stored}
use Rattle.lin_spec.specs.File.{Section as Part, section, Standing, open_boards, sections, boards_of, board_in, file_spans, no_board, numbered, count_boards, file_heading, file_board, remaining}
use Rattle.lin_spec.specs.declared.Span.{Span}
use Rattle.lin_spec.specs.declared.Refusal.{Refusal}
use Rattle.lin_spec.specs.declared.Refusal.TheVariants.{NoBoard}
use Rattle.lin_spec.specs.declared.Heading.{Heading}
use Rattle.lin_spec.proofs.Base.{and_left, and_right, split}
use Rattle.lin_spec.proofs.Checks.{unless-refused, unless-passed}
use Rattle.lin_spec.proofs.File.{Found, all_remain}
use Rattle.lin_spec.proofs.FileMeaning.{get_d_map}
use Rattle.board_loop.specs.Head.{board_at}
use Rattle.file_sections.specs.Sections.{section_of, standing_of, opened_of, first_standing, AtFirst}
use Rattle.file_sections.proofs.WayLaws.{Way, way_begin, way_end, front-boards, number-board, number-other, way_on, found_inside}
use Rattle.file.specs.Numbers.{Counts, NumberedBoard, Numbers}
use Rattle.file_sections.specs.declared.sections.Section.{Section}
use Rattle.file_sections.specs.declared.sections.BoardCursor.{BoardCursor}

-- One section on the way of a cursor

module _ (s : List ℕ) (c : Standing) (w : Way s c) (n : ℕ) (p : Part) (d : Standing) (f : Found s c n p d) where
  -- the board that is looked for
  pub it_is : (m : ℕ) → (p.board && eqb n m) ≡ true → get_or (boards_of (remaining s c)) (m - c.number) (section 0 0 false) ≡ get_or (boards_of (sections s)) m (section 0 0 false)
      → (m < length (boards_of (sections s))) × (get_or (boards_of (sections s)) m (section 0 0 false) ≡ p)
  it_is m h g =
      let t = and_left p.board _ h in
      let e = f.number in
      let q = eqb-true n m (and_right p.board _ h) in
      let b : boards_of (remaining s c) ≡ p ∷ boards_of (remaining s d) = front-boards s c w n p d f ∙ simp t in
      let l = ap length b in
      let a = w.all in
      let z : m - c.number ≡ 0 = omega arith in
      (omega arith, sym g ∙ (let y : get_or (boards_of (remaining s c)) (m - c.number) (section 0 0 false) ≡ p = rw (z, b) refl in y))

  pub not_it : (m : ℕ) → (p.board && eqb n m) ≡ false → c.number ≤ m → get_or (boards_of (remaining s c)) (m - c.number) (section 0 0 false) ≡ get_or (boards_of (sections s)) m (section 0 0 false)
      → (d.number ≤ m) × (get_or (boards_of (remaining s d)) (m - d.number) (section 0 0 false) ≡ get_or (boards_of (sections s)) m (section 0 0 false))
  not_it m h k g = go p.board refl
    where
      go : (t : Bool) → p.board ≡ t → (d.number ≤ m) × (get_or (boards_of (remaining s d)) (m - d.number) (section 0 0 false) ≡ get_or (boards_of (sections s)) m (section 0 0 false))
      go true t =
          let e = number-board s c w n p d f t in
          let u = f.number in
          let q = eqb-false n m (simp t at h) in
          let b : boards_of (remaining s c) ≡ p ∷ boards_of (remaining s d) = front-boards s c w n p d f ∙ simp t in
          let r : c.number < m = split c.number m (λ y. y) (λ y. absurd (q (omega arith))) in
          let z : m - c.number ≡ suc (m - d.number) = omega arith in
          (omega arith, (let y = rw (b, z) at g in y))
      go false t =
          let e = number-other s c w n p d f t in
          let b : boards_of (remaining s c) ≡ boards_of (remaining s d) = front-boards s c w n p d f ∙ simp t in
          (omega arith, (let y = rw b at g in rw e y))

-- Looking for a number: the board of that number among those that remain is the file's

pub record Seeks (s : List ℕ) (n : ℕ) (c : Standing) : Type 0 where
  pub way : Way s c
  pub most : c.number ≤ n
  pub same : get_or (boards_of (remaining s c)) (n - c.number) (section 0 0 false) ≡ get_or (boards_of (sections s)) n (section 0 0 false)

pub seeks_begin : (s : List ℕ) (n : ℕ) (c : BoardCursor) → AtFirst s c → Seeks s n (standing_of c)
seeks_begin s n c r =
    let z : n - 0 ≡ n = omega arith in
    record {
      way = way_begin s c r;
      most = let e = ap (λ (x : Standing). x.number) r.first in omega arith;
      same = subst (λ (x : Standing). get_or (boards_of (remaining s x)) (n - x.number) (section 0 0 false) ≡ get_or (boards_of (sections s)) n (section 0 0 false)) (sym r.first) (rw (all_remain s, z) refl);
    }

pub seeks_on : (s : List ℕ) (m : ℕ) (c : Standing) → Seeks s m c → (n : ℕ) (p : Part) (d : Standing) → Found s c n p d → (p.board && eqb n m) ≡ false → Seeks s m d
seeks_on s m c k n p d f h =
    let z = not_it s c k.way n p d f m h k.most k.same in
    record { way = way_on s c k.way n p d f; most = z.0; same = z.1 }

pub seeks_found : (s : List ℕ) (m : ℕ) (c : Standing) → Seeks s m c → (n : ℕ) (p : Section) (d : Standing) → Found s c n (section_of p) d → (p.board && eqb n m) ≡ true → NumberedBoard s m p
seeks_found s m c k n p d f h =
    let z = it_is s c k.way n (section_of p) d f m h k.same in
    record { some = z.0; is = z.1; inside = found_inside s c k.way n p d f }

pub seeks_missing : (s : List ℕ) (m : ℕ) (c : Standing) → Seeks s m c → remaining s c ≡ []
    → (NoBoard c.number ≡ NoBoard (length (boards_of (sections s)))) × (length (boards_of (sections s)) ≤ m)
seeks_missing s m c k e = let w = way_end s c k.way e in (ap NoBoard w, let k = k.most in omega (arith, w))

-- The entries, by the answer of `open_boards`

spans-count : (s : List ℕ) → length (file_spans s) ≡ length (boards_of (sections s))
unfolding file_spans
spans-count s = length-map (boards_of (sections s)) (board_in s)

pub numbered_is : (s : List ℕ) (n : ℕ) (p : Section) → NumberedBoard s n p → numbered s n ≡ board_at (take p.stop s) p.start
unfolding file_spans board_in
numbered_is s n p b = get_d_map (board_in s) (boards_of (sections s)) n (section 0 0 false) ∙ ap (board_in s) b.is

module _ (s : List ℕ) (o : Result BoardCursor Refusal) (e : opened_of o ≡ open_boards s) where
  module _ (c : BoardCursor) (f : o ≡ Ok c) where
    taken : open_boards s ≡ Ok (standing_of c)
    taken = sym e ∙ ap opened_of f

    -- the checks 1 and 2 are passed
    pub passed : {A : Type 0} (ds : List (Option Refusal)) (a : A) → unless (too_long s ∷ not_utf8 s ∷ ds) a ≡ unless ds a
    unfolding open_boards
    passed ds a = unless-passed (too_long s ∷ not_utf8 s ∷ []) ds (first_standing s) (standing_of c) a taken

    pub counted : (n : ℕ) → Counts s n → Ok n ≡ count_boards s
    unfolding count_boards
    counted n h = (let z : Ok n ≡ unless [] (length (file_spans s)) = unfold unless in ap Ok (h ∙ sym (spans-count s)) in z) ∙ sym (passed [] (length (file_spans s)))

    module _ (n : ℕ) where
      pub missing : (r : Refusal) → r ≡ NoBoard (length (boards_of (sections s))) → length (boards_of (sections s)) ≤ n → {A : Type 0} (ds : List (Option Refusal)) (a : A) → unless (no_board n (length (file_spans s)) ∷ ds) a ≡ Err r
      unfolding unless
      missing r h l ds a = rw (spans-count s, h) (simp (le-leb (length (boards_of (sections s))) n l))

      pub there : (p : Section) → NumberedBoard s n p → {A : Type 0} (ds : List (Option Refusal)) (a : A) → unless (no_board n (length (file_spans s)) ∷ ds) a ≡ unless ds a
      unfolding unless
      there p b ds a = simp (lt-leb (length (file_spans s)) n (let x = b.some in let y = spans-count s in omega arith))

      pub heading_missing : (r : Refusal) → r ≡ NoBoard (length (boards_of (sections s))) → length (boards_of (sections s)) ≤ n → (h : Answer Heading) → h ≡ Err r → h ≡ file_heading s n
      unfolding file_heading
      heading_missing r q l h g = g ∙ sym (ap headed (passed _ (numbered s n) ∙ missing r q l [] (numbered s n)))

      pub heading-found : (p : Section) → NumberedBoard s n p → (h : Heading) → h ≡ heading_of (board_at (take p.stop s) p.start) → Ok h ≡ file_heading s n
      unfolding file_heading
      heading-found p b h g =
          let z : unless [] (numbered s n) ≡ Ok (board_at (take p.stop s) p.start) = unfold unless in ap Ok (numbered_is s n p b) in
          ap Ok g ∙ sym (ap headed (passed _ (numbered s n) ∙ there p b [] (numbered s n) ∙ z))

      pub board_missing : (r : Refusal) → r ≡ NoBoard (length (boards_of (sections s))) → length (boards_of (sections s)) ≤ n → (h : Answer Heading) → h ≡ Err r → (rows cards : List ℕ)
          → record { heading = h; rows = rows; cards = cards } ≡ file_board s n rows cards
      unfolding file_board
      board_missing r q l h g rows cards = rw g (sym (ap (λ (a : Answer (BoardOf Span)). stored a rows cards) (passed _ (numbered s n) ∙ missing r q l (few_rows (numbered s n) rows cards) (numbered s n))))

      pub board-found : (p : Section) → NumberedBoard s n p → (rows cards : List ℕ) {r : Reading}
          → r ≡ stored (unless (few_rows (board_at (take p.stop s) p.start) rows cards) (board_at (take p.stop s) p.start)) rows cards → r ≡ file_board s n rows cards
      unfolding file_board
      board-found p b rows cards g =
          g
          ∙ sym (ap (λ (a : Answer (BoardOf Span)). stored a rows cards) (passed _ (numbered s n) ∙ there p b (few_rows (numbered s n) rows cards) (numbered s n) ∙ ap (λ (x : BoardOf Span). unless (few_rows x rows cards) x) (numbered_is s n p b)))

  module _ (r : Refusal) (f : o ≡ Err r) where
    left : open_boards s ≡ Err r
    left = sym e ∙ ap opened_of f

    pub stopped : {A : Type 0} (ds : List (Option Refusal)) (a : A) → unless (too_long s ∷ not_utf8 s ∷ ds) a ≡ Err r
    unfolding open_boards
    stopped ds a = unless-refused (too_long s ∷ not_utf8 s ∷ []) ds (first_standing s) a r left

    pub count-refused : Err r ≡ count_boards s
    unfolding count_boards
    count-refused = sym (stopped [] (length (file_spans s)))

    module _ (n : ℕ) (h : Answer Heading) (g : h ≡ Err r) where
      pub heading-refused : h ≡ file_heading s n
      unfolding file_heading
      heading-refused = g ∙ sym (ap headed (stopped _ (numbered s n)))

      pub board-refused : (rows cards : List ℕ) → record { heading = h; rows = rows; cards = cards } ≡ file_board s n rows cards
      unfolding file_board
      board-refused rows cards = rw g (sym (ap (λ (a : Answer (BoardOf Span)). stored a rows cards) (stopped _ (numbered s n))))

-- what a found number that was called for and taken apart says
pub given : (s : List ℕ) (n : ℕ) (r v : Answer Section) → Numbers s n r → r ≡ v → Numbers s n v
given s n r v h e = subst (Numbers s n) e h
