-- Laws of a board cursor on its way through a file: what it has passed and what remains. (01: File)
-- Assumes nothing.
use Rattle.std.specs.Prelude.{Ok, Result}
use Rattle.lin_spec.specs.declared.Refusal.{Refusal}
use Prim.Native.Nat.{ℕ, ◌+◌, ◌≤◌}
use native.Mathlib.Omega.{arith}
use mathlib.Core.Path.{◌≡◌, refl, ap, sym, subst, ◌∙◌}
use mathlib.Core.Bool.{Bool, true, false}
use mathlib.Core.List.{List, [], ◌∷◌}
use lib.ListN.{length}
use Rattle.lin_spec.specs.Base.{pick, keep}
use Rattle.lin_spec.specs.Records.{limit}
use Rattle.lin_spec.specs.Refusals.{unless, too_long, not_utf8}
use Rattle.lin_spec.specs.Document.{open_text}
use Rattle.lin_spec.specs.File.{Section as Part, Standing, open_boards, sections, boards_of, remaining}
use Rattle.lin_spec.proofs.Checks.{unless-same, unless-passed}
use Rattle.lin_spec.proofs.Document.{opened}
use Rattle.lin_spec.proofs.File.{Found, all_remain}
use Rattle.file_sections.specs.Sections.{section_of, standing_of, opened_of, Inside, first_standing, AtFirst}
use Rattle.file_sections.specs.declared.sections.Section.{Section}
use Rattle.file_sections.specs.declared.sections.BoardCursor.{BoardCursor}

-- A cursor on its way: the boards passed and those that remain are all

pub record Way (s : List ℕ) (c : Standing) : Type 0 where
  pub short : length s ≤ limit
  pub all : c.number + length (boards_of (remaining s c)) ≡ length (boards_of (sections s))
  pub small : c.number ≤ c.at
  pub within : c.at ≤ length s + 1

pub way_begin : (s : List ℕ) (c : BoardCursor) → AtFirst s c → Way s (standing_of c)
way_begin s c r =
    let a = ap (λ (l : List Part). length (boards_of l)) (all_remain s) in
    let w : Way s (first_standing s) = record { short = r.short; all = omega arith; small = omega arith; within = omega arith } in
    subst (Way s) (sym r.first) w

pub way_end : (s : List ℕ) (c : Standing) → Way s c → remaining s c ≡ [] → c.number ≡ length (boards_of (sections s))
unfolding keep
way_end s c w e = (let z : c.number ≡ c.number + length (boards_of (remaining s c)) = rw e (omega arith) in z) ∙ w.all

module _ (s : List ℕ) (c : Standing) (w : Way s c) (n : ℕ) (p : Part) (d : Standing) (f : Found s c n p d) where
  pub front-boards : boards_of (remaining s c) ≡ pick p.board (p ∷ boards_of (remaining s d)) (boards_of (remaining s d))
  unfolding keep
  front-boards = ap boards_of f.front

  -- the number goes up by one at a board
  pub number-board : p.board ≡ true → d.number ≡ c.number + 1
  number-board h = f.next ∙ simp h (let a = w.small in let b = w.within in let l = w.short in omega arith)

  pub number-other : p.board ≡ false → d.number ≡ c.number
  number-other h = f.next ∙ simp h

  pub way_on : Way s d
  way_on = go p.board refl
    where
      go : (t : Bool) → p.board ≡ t → Way s d
      go true h =
          let e = number-board h in
          let b : boards_of (remaining s c) ≡ p ∷ boards_of (remaining s d) = front-boards ∙ simp h in
          let l = ap length b in
          let a = w.all in
          record { short = w.short; all = omega arith; small = let x = w.small in let y = f.later in omega arith; within = f.within }
      go false h =
          let e = number-other h in
          let b : boards_of (remaining s c) ≡ boards_of (remaining s d) = front-boards ∙ simp h in
          let l = ap length b in
          let a = w.all in
          record { short = w.short; all = omega arith; small = let x = w.small in let y = f.later in omega arith; within = f.within }

pub found_inside : (s : List ℕ) (c : Standing) → Way s c → (n : ℕ) (p : Section) (d : Standing) → Found s c n (section_of p) d → Inside s p
found_inside s c w n p d f = record { begins = f.begins; stops = f.stops; short = let l = w.short in omega arith }

-- a cursor that `open_boards` gave
module _ (s : List ℕ) (o : Result BoardCursor Refusal) (e : opened_of o ≡ open_boards s) (c : BoardCursor) (f : o ≡ Ok c) where
  taken : open_boards s ≡ Ok (standing_of c)
  taken = sym e ∙ ap opened_of f

  pub at_first : AtFirst s c
  unfolding open_boards open_text
  at_first =
      record {
        first = sym (unless-same (too_long s ∷ not_utf8 s ∷ []) (first_standing s) (standing_of c) taken);
        short = (opened s {n = 0} (unless-passed (too_long s ∷ not_utf8 s ∷ []) [] (first_standing s) (standing_of c) 0 taken ∙ (unfold unless in refl))).short;
      }
