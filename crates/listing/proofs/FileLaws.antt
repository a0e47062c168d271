-- Laws of the whole listing: what is left to list from a cursor on, measured and put, and which listing an input has. (01: Program linlist)
-- Assumes nothing.
use Rattle.std.specs.Prelude.{Option, Err, Ok, Result}
use Prim.Native.Nat.{ℕ, ◌+◌, ◌^◌, ◌≤◌, ◌<◌}
use native.Mathlib.Omega.{arith}
use mathlib.Core.Path.{◌≡◌, refl, ap, sym, ◌∙◌}
use mathlib.Core.Bool.{Bool, true, false, not, false≢true}
use mathlib.Core.List.{List, [], ◌∷◌, ◌++◌, map}
use lib.ListN.{length, take, length-append}
use borrow.Author.Tests.{le-ltb, lt-ltb}
use Rattle.lin_spec.specs.Base.{keep}
use Rattle.lin_spec.specs.Records.{limit}
use Rattle.lin_spec.specs.Refusals.{unless, too_long, not_utf8, sat}
use Rattle.lin_spec.specs.Output.{Outcome, room}
use Rattle.lin_spec.specs.Reading.{heading_of}
use Rattle.lin_spec.specs.File.{Section as Part, Standing, open_boards, boards_of, board_in, file_spans, remaining}
use Rattle.lin_spec.specs.Listing.{header, board_line, refusal_line, board_lines, over_limit, printed, listing, write_line}
use Rattle.lin_spec.specs.declared.Refusal.{Refusal}
use Rattle.lin_spec.specs.declared.Refusal.TheVariants.{TextTooLong, OutputTooSmall}
use Rattle.lin_spec.specs.declared.Heading.{Heading}
use Rattle.lin_spec.proofs.Checks.{unless-refused, unless-passed}
use Rattle.lin_spec.proofs.File.{Found, all_remain}
use Rattle.board_loop.specs.Head.{board_at}
use Rattle.file_sections.specs.Sections.{section_of, standing_of, opened_of, AtFirst}
use Rattle.file_sections.specs.declared.sections.Section.{Section}
use Rattle.file_sections.specs.declared.sections.BoardCursor.{BoardCursor}
use Rattle.file_sections.proofs.WayLaws.{Way, way_begin, way_on, number-board, number-other}
use Rattle.output.specs.Put.{Room, Put}
use Rattle.output.proofs.Laws.{Left, start, roomy, step, finish, overlay-nil}
use Rattle.listing.specs.Lines.{section_line}
use Rattle.listing_lines.proofs.LineLaws.{header-long}
use Rattle.listing_lines.proofs.Answers.{line_small, line-fits, line-done}

-- A section's line

pub heading-is : (s : List ℕ) (p : Section) (h : Heading) → h ≡ heading_of (board_at (take p.stop s) p.start) → h ≡ heading_of (board_in s (section_of p))
unfolding board_in
heading-is s p h e = e

module _ (s : List ℕ) (k : ℕ) (p : Section) where
  pub no_line : not p.board ≡ true → section_line s k (section_of p) ≡ []
  no_line h = go p.board refl h
    where
      go : (t : Bool) → p.board ≡ t → not t ≡ true → section_line s k (section_of p) ≡ []
      go true e q = absurd (false≢true q)
      go false e q = simp e

  pub its_line : not p.board ≡ false → (h : Heading) → h ≡ heading_of (board_in s (section_of p)) → board_line k h ≡ section_line s k (section_of p)
  its_line n h g = go p.board refl n
    where
      go : (t : Bool) → p.board ≡ t → not t ≡ false → board_line k h ≡ section_line s k (section_of p)
      go true e q = rw g (simp e)
      go false e q = absurd (false≢true (sym q))

  module _ (n : not p.board ≡ false) (h : Heading) (g : h ≡ heading_of (board_in s (section_of p))) (o : List ℕ) (at : ℕ) where
    pub its_room : Room o at (section_line s k (section_of p)) → Room o at (board_line k h)
    its_room r = rw (its_line n h g) r

    pub its_put : {o' : List ℕ} {m : ℕ} → Put o at (board_line k h) o' m → Put o at (section_line s k (section_of p)) o' m
    its_put r = rw (its_line n h g) at r

  pub no_line-long : not p.board ≡ true → 0 ≡ sat (length (section_line s k (section_of p)))
  no_line-long h = let e = ap length (no_line h) in omega arith

  pub its_line-long : not p.board ≡ false → (h : Heading) → h ≡ heading_of (board_in s (section_of p)) → (n : ℕ) → n ≡ sat (length (board_line k h))
      → n ≡ sat (length (section_line s k (section_of p)))
  its_line-long q h g n e = e ∙ ap (λ (t : List ℕ). sat (length t)) (its_line q h g)

-- nothing is put where there is no line
pub put_none : (o : List ℕ) (at : ℕ) (t : List ℕ) → t ≡ [] → Put o at t o at
put_none o at t e = rw e (record { next = omega arith; text = sym (overlay-nil o at) })

-- What is left to list

abbrev pub rest : (s : List ℕ) → Standing → List ℕ
rest s c = board_lines c.number (map (board_in s) (boards_of (remaining s c)))

pub rest_begin : (s : List ℕ) (c : BoardCursor) → AtFirst s c → rest s (standing_of c) ≡ board_lines 0 (file_spans s)
unfolding file_spans
rest_begin s c r = ap (rest s) r.first ∙ ap (λ (l : List Part). board_lines 0 (map (board_in s) (boards_of l))) (all_remain s)

pub rest_end : (s : List ℕ) (c : Standing) → remaining s c ≡ [] → rest s c ≡ []
unfolding keep board_lines
rest_end s c e = ap (λ (l : List Part). board_lines c.number (map (board_in s) (boards_of l))) e

pub rest-on : (s : List ℕ) (c : Standing) → Way s c → (n : ℕ) (p : Part) (d : Standing) → Found s c n p d → rest s c ≡ section_line s n p ++ rest s d
unfolding keep board_lines
rest-on s c w n p d f = ap (λ (l : List Part). board_lines c.number (map (board_in s) (boards_of l))) f.front ∙ go p.board refl
  where
    go : (t : Bool) → p.board ≡ t → board_lines c.number (map (board_in s) (boards_of (p ∷ remaining s d))) ≡ section_line s n p ++ rest s d
    go true e = simp (e, f.number, number-board s c w n p d f e)
    go false e = simp (e, number-other s c w n p d f e)

-- The lines measured so far, and those that are left

pub record Measured (s : List ℕ) (n : ℕ) (c : Standing) : Type 0 where
  pub way : Way s c
  pub all : sat (n + length (rest s c)) ≡ sat (length (board_lines 0 (file_spans s)))
  pub small : n < 2 ^ 64

pub measured_begin : (s : List ℕ) (c : BoardCursor) → AtFirst s c → Measured s 0 (standing_of c)
measured_begin s c r = let e = ap length (rest_begin s c r) in record { way = way_begin s c r; all = omega arith; small = omega arith }

pub measured-end : (s : List ℕ) (n : ℕ) (c : Standing) → Measured s n c → remaining s c ≡ [] → n ≡ sat (length (board_lines 0 (file_spans s)))
measured-end s n c m e = let l = ap length (rest_end s c e) in let a = m.all in let k = m.small in omega arith

pub measured-on : (s : List ℕ) (n : ℕ) (c : Standing) → Measured s n c → (k : ℕ) (p : Part) (d : Standing) → Found s c k p d
    → (x : ℕ) → x ≡ sat (length (section_line s k p)) → (r : ℕ) → r ≡ sat (n + x) → Measured s r d
measured-on s n c m k p d f x e r g =
    let l : length (rest s c) ≡ length (section_line s k p) + length (rest s d) = ap length (rest-on s c m.way k p d f) ∙ length-append (section_line s k p) (rest s d) in
    let a = m.all in
    record { way = way_on s c m.way k p d f; all = omega arith; small = omega arith }

-- The lines put so far

pub record Listed (s : List ℕ) (o : List ℕ) (n : ℕ) (c : Standing) (o₀ : List ℕ) (at : ℕ) : Type 0 where
  pub way : Way s c
  pub left : Left o n (rest s c) o₀ at (board_lines 0 (file_spans s))

pub listed_begin : (s : List ℕ) (c : BoardCursor) → AtFirst s c → (o : List ℕ) (at : ℕ) → Room o at (board_lines 0 (file_spans s)) → Listed s o at (standing_of c) o at
listed_begin s c r o at h = record { way = way_begin s c r; left = rw (rest_begin s c r) (start h) }

module _ (s o : List ℕ) (n : ℕ) (c : Standing) (o₀ : List ℕ) (at : ℕ) (l : Listed s o n c o₀ at) where
  pub listed_end : remaining s c ≡ [] → Put o₀ at (board_lines 0 (file_spans s)) o n
  listed_end e = finish (let z = l.left in rw (rest_end s c e) at z)

  module _ (k : ℕ) (p : Part) (d : Standing) (f : Found s c k p d) where
    next-left : Left o n (section_line s k p ++ rest s d) o₀ at (board_lines 0 (file_spans s))
    next-left = let z = l.left in rw (rest-on s c l.way k p d f) at z

    pub listed_room : Room o n (section_line s k p)
    listed_room = roomy (section_line s k p) (rest s d) next-left

    pub listed_on : {o' : List ℕ} {r : ℕ} → Put o n (section_line s k p) o' r → Listed s o' r d o₀ at
    listed_on q = record { way = way_on s c l.way k p d f; left = step next-left q }

-- Header and lines, by the test that was made

whole_long : (s : List ℕ) (x n : ℕ) → x ≡ sat (length (board_lines 0 (file_spans s))) → n ≡ sat (43 + x) → n ≡ sat (length (header ++ board_lines 0 (file_spans s)))
whole_long s x n e f = let l = length-append header (board_lines 0 (file_spans s)) in let h = header-long in omega arith

module _ (s o : List ℕ) (x need : ℕ) (ex : x ≡ sat (length (board_lines 0 (file_spans s)))) (en : need ≡ sat (43 + x)) (r : ℕ) (er : r ≡ room o) where
  pub whole-small : r < need → ◌≡◌ {A = Outcome} (record { answer = Err (OutputTooSmall need); output = o }) (write_line (header ++ board_lines 0 (file_spans s)) o)
  whole-small h = line_small (header ++ board_lines 0 (file_spans s)) o need (whole_long s x need ex en) r er h

  module _ (h : need ≤ r) where
    begun : Left o 0 (header ++ board_lines 0 (file_spans s)) o 0 (header ++ board_lines 0 (file_spans s))
    begun = start (line-fits (header ++ board_lines 0 (file_spans s)) o need (whole_long s x need ex en) r er h)

    pub header-room : Room o 0 header
    header-room = roomy header (board_lines 0 (file_spans s)) begun

    module _ {o₁ : List ℕ} {n₁ : ℕ} (p : Put o 0 header o₁ n₁) where
      pub lines-room : Room o₁ n₁ (board_lines 0 (file_spans s))
      lines-room = record { room = (step {s = header} begun p).room }

      pub whole-done : {o₂ : List ℕ} {n₂ : ℕ} → Put o₁ n₁ (board_lines 0 (file_spans s)) o₂ n₂
          → ◌≡◌ {A = Outcome} (record { answer = Ok n₂; output = o₂ }) (write_line (header ++ board_lines 0 (file_spans s)) o)
      whole-done q =
          let l = step {s = header} begun p in
          line-done (header ++ board_lines 0 (file_spans s)) o need (whole_long s x need ex en) r er h (record { next = omega (arith, q.next, l.ends); text = q.text ∙ l.same })

-- an answer that writes the listing
pub as_listed : (t u o : List ℕ) {r : Outcome} → r ≡ write_line t o → t ≡ u → r ≡ write_line u o
as_listed t u o h e = h ∙ ap (λ (x : List ℕ). write_line x o) e

-- The listing, by the tests that were made

module _ (s : List ℕ) where
  pub list_over : 65536 < length s → refusal_line TextTooLong ≡ listing s
  unfolding listing unless
  list_over h = simp (lt-ltb 65536 (length s) h)

  module _ (h : length s ≤ 65536) where
    same-checks : {A : Type 0} (ds : List (Option Refusal)) (a : A) → unless (over_limit s ∷ ds) a ≡ unless (too_long s ∷ ds) a
    unfolding unless
    same-checks ds a = simp (le-ltb 65536 (length s) h, le-ltb limit (length s) (let k : length s ≤ limit = omega arith in k))

    module _ (o : Result BoardCursor Refusal) (e : opened_of o ≡ open_boards s) where
      pub list_refused : (r : Refusal) → o ≡ Err r → refusal_line r ≡ listing s
      unfolding listing open_boards
      list_refused r f = sym (ap printed (same-checks (not_utf8 s ∷ []) (file_spans s) ∙ unless-refused (too_long s ∷ not_utf8 s ∷ []) [] _ (file_spans s) r (sym e ∙ ap opened_of f)))

      pub list_boards : (c : BoardCursor) → o ≡ Ok c → header ++ board_lines 0 (file_spans s) ≡ listing s
      unfolding listing open_boards
      list_boards c f =
          let z : unless [] (file_spans s) ≡ Ok (file_spans s) = unfold unless in refl in
          sym (ap printed (same-checks (not_utf8 s ∷ []) (file_spans s) ∙ unless-passed (too_long s ∷ not_utf8 s ∷ []) [] _ (standing_of c) (file_spans s) (sym e ∙ ap opened_of f) ∙ z))
