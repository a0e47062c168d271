-- Laws of parts and lines as they are read: what is left to read of them, and what a cursor passes. (01: File)
-- Assumes nothing.
use Rattle.std.specs.Prelude.{Err, Ok, Option, Result}
use Prim.Native.Nat.{ℕ, ◌+◌, ◌-◌, ◌≤◌, ◌<◌, ◌^◌}
use native.Mathlib.Omega.{arith}
use mathlib.Core.Path.{◌≡◌, refl, ap, sym, subst, ◌∙◌}
use mathlib.Core.Bool.{Bool, true, false, ◌&&◌, ◌||◌, not, false≢true, or-false, or_assoc}
use mathlib.Core.List.{List, [], ◌∷◌}
use lib.ListN.{length, take, drop, length-take}
use lib.Dec.{eqb, ltb}
use borrow.Author.Tests.{eq-eqb, ne_eqb, eqb-true, le-leb, lt-ltb, le-ltb}
use Rattle.lin_spec.specs.Base.{pick, null, ascii, any, keep}
use Rattle.lin_spec.specs.Records.{end_of, part}
use Rattle.lin_spec.specs.Refusals.{unless, too_long, not_utf8, sat}
use Rattle.lin_spec.specs.Document.{open_text}
use Rattle.lin_spec.specs.declared.Refusal.{Refusal}
use Rattle.lin_spec.proofs.Checks.{unless-refused, unless-passed}
use Rattle.document.specs.declared.tokens.Cursor.{Cursor}
use Rattle.lin_spec.specs.White.{blank, is_command}
use Rattle.lin_spec.specs.Tokens.{cut}
use Rattle.lin_spec.specs.Cards.{field}
use Rattle.lin_spec.specs.Cursor.{find_from}
use Rattle.lin_spec.specs.Reading.{stream}
use Rattle.lin_spec.specs.File.{Section as Part, section, holds, leads, part_at, boards_of, Standing, Visit, remaining, first_of, after, visit, next_board, open_boards}
use Rattle.lin_spec.specs.File.Visit.{found, ended}
use Rattle.lin_spec.specs.declared.Span.{Span}
use Rattle.lin_spec.proofs.Base.{and_left, and_right, split}
use Rattle.lin_spec.proofs.Records.{part_length, part-rest}
use Rattle.lin_spec.proofs.Cursor.{find-within, find-after, cut_at, cut-end}
use Rattle.lin_spec.specs.Visits.{line_at, part_end, part_from}
use Rattle.lin_spec.proofs.File.{visit-is, up_to, none_yet, stream-take}
use Rattle.lin_spec.proofs.File.{line-stops, part-later, Found, Visited, visits}
use Rattle.lin_spec.proofs.Steps.{front-board, front-other, number-other, same_lines}
use Rattle.file_sections.specs.Sections.{section_of, standing_of, visit_by, visit_of, past, Inside}
use Rattle.file_sections.specs.declared.sections.BoardStep.{BoardStep}
use Rattle.file_sections.specs.declared.sections.Section.{Section}
use Rattle.file_sections.specs.declared.sections.BoardCursor.{BoardCursor}
use Rattle.document_commands.specs.Commands.{Unmarked}
use Rattle.document_commands.specs.Steps.{TokenAt}
use Rattle.document_commands.proofs.StepLaws.{command-is}
use Rattle.document.specs.Steps.{opened_of as opened_at}

-- qx in the tokens from a place on
module _ (s : List ℕ) (at k : ℕ) (v : Span) (n : ℕ) (t : TokenAt s at k v n) where
  pub qx-is : is_command t.command (ascii "qx") ≡ eqb k 5
  qx-is = command-is s at k v n t 5 (omega arith)

  md-is : is_command t.command (ascii "md") ≡ eqb k 3
  md-is = command-is s at k v n t 3 (omega arith)

  pub leads-is : leads t.command ≡ (eqb k 6 || eqb k 4)
  leads-is = simp (command-is s at k v n t 6 (omega arith), command-is s at k v n t 4 (omega arith))

  pub qx-here : k ≡ 5 → true ≡ holds (ascii "qx") (stream s at)
  unfolding any
  qx-here h = simp (t.front, qx-is, eq-eqb k 5 h)

  pub qx-later : (k ≡ 5 → ⊥) → holds (ascii "qx") (stream s n) ≡ holds (ascii "qx") (stream s at)
  unfolding any
  qx-later h = simp (t.front, qx-is, ne_eqb k 5 h)

pub no_qx : (s : List ℕ) (at : ℕ) → stream s at ≡ [] → false ≡ holds (ascii "qx") (stream s at)
unfolding any
no_qx s at e = simp e

-- The part that begins at `begin`: what is still to be read of it, where a qx here is moved back to `back`

abbrev md_up_to : (s : List ℕ) (at e : ℕ) → Bool
md_up_to s at e = holds (ascii "md") (up_to e (stream s at))

pub record Walks (s : List ℕ) (begin back at : ℕ) (board : Bool) : Type 0 where
  pub ends : part_end begin back at (stream s at) ≡ part_end begin begin begin (stream s begin)
  pub here : board ≡ md_up_to s begin back
  pub ahead : (e : ℕ) → at ≤ e → (board || md_up_to s at e) ≡ md_up_to s begin e

pub walks_begin : (s : List ℕ) (begin : ℕ) → Walks s begin begin begin false
unfolding any
walks_begin s begin = record { ends = refl; here = simp (none_yet s begin begin (omega arith)); ahead = λ e h. refl }

-- its bounds, when it ends
pub part-is : (s : List ℕ) (begin e : ℕ) (board : Bool) → e ≡ part_end begin begin begin (stream s begin) → board ≡ md_up_to s begin e
    → section begin e board ≡ part_at s begin (part_end begin begin begin (stream s begin))
part-is s begin e board h b = rw (← h) (rw (b ∙ ap (holds (ascii "md")) (sym (stream-take s begin e))) refl)

pub walks_end : (s : List ℕ) (begin back at : ℕ) (board : Bool) → Walks s begin back at board → stream s at ≡ []
    → section begin at board ≡ part_at s begin (part_end begin begin begin (stream s begin))
unfolding part_end any up_to
walks_end s begin back at board w e =
    part-is s begin at board ((let z : at ≡ part_end begin back at (stream s at) = simp e in z) ∙ w.ends)
    (sym (or-false board) ∙ (let z = w.ahead at (omega arith) in rw e at z))

module _ (s : List ℕ) (begin back at : ℕ) (board : Bool) (w : Walks s begin back at board) (k : ℕ) (v : Span) (n : ℕ) (t : TokenAt s at k v n) where
  pub walks_stop : (eqb k 5 && ltb begin back) ≡ true → section begin back board ≡ part_at s begin (part_end begin begin begin (stream s begin))
  unfolding part_end
  walks_stop h =
      let q = and_left (eqb k 5) _ h in
      let l = and_right (eqb k 5) _ h in
      part-is s begin back board ((let z : back ≡ part_end begin back at (stream s at) = simp (t.front, qx-is s at k v n t, q, l) in z) ∙ w.ends) w.here

  -- the token is passed
  md-more : (e : ℕ) → n ≤ e → md_up_to s at e ≡ (eqb k 3 || md_up_to s n e)
  unfolding any up_to
  md-more e h = let a = t.after in simp (t.front, le-leb (end_of v + 1) e (omega arith), md-is s at k v n t)

  other : (i j : ℕ) → k ≡ i → (i ≡ j → ⊥) → eqb k j ≡ false
  other i j e h = ne_eqb k j (λ x. h (sym e ∙ x))

  on-ends : (eqb k 5 && ltb begin back) ≡ false → part_end begin (pick (eqb k 6 || eqb k 4) back n) n (stream s n) ≡ part_end begin back at (stream s at)
  unfolding part_end
  on-ends h = go (eqb k 5) refl
    where
      go : (q : Bool) → eqb k 5 ≡ q → part_end begin (pick (eqb k 6 || eqb k 4) back n) n (stream s n) ≡ part_end begin back at (stream s at)
      go true q =
          let e = eqb-true k 5 q in
          let l : ltb begin back ≡ false = (simp q at h) in
          simp (t.front, qx-is s at k v n t, q, l, other 5 6 e (λ x. omega arith), other 5 4 e (λ x. omega arith), ← t.after)
      go false q = simp (t.front, qx-is s at k v n t, q, leads-is s at k v n t, ← t.after)

  on-here : (r : Bool) → (eqb k 6 || eqb k 4) ≡ r → (board || eqb k 3) ≡ md_up_to s begin (pick r back n)
  unfolding any
  on-here false r =
      let m : md_up_to s n n ≡ false = simp (none_yet s n n (omega arith)) in
      (let z : (board || eqb k 3) ≡ (board || md_up_to s at n) = ap (λ (x : Bool). board || x) (sym (md-more n (omega arith) ∙ ap (λ (x : Bool). eqb k 3 || x) m ∙ or-false (eqb k 3))) in z)
      ∙ w.ahead n (let l = t.later in omega arith)
  on-here true r = ap (λ (x : Bool). board || x) (lead (eqb k 6) refl r) ∙ or-false board ∙ w.here
    where
      lead : (x : Bool) → eqb k 6 ≡ x → (eqb k 6 || eqb k 4) ≡ true → eqb k 3 ≡ false
      lead true e h = other 6 3 (eqb-true k 6 e) (λ x. omega arith)
      lead false e h = other 4 3 (eqb-true k 4 (simp e at h)) (λ x. omega arith)

  pub walks_on : (eqb k 5 && ltb begin back) ≡ false → (b : ℕ) → b ≡ pick (eqb k 6 || eqb k 4) back n → Walks s begin b n (board || eqb k 3)
  walks_on h b e =
      rw e
      (record {
        ends = on-ends h ∙ w.ends;
        here = on-here (eqb k 6 || eqb k 4) refl;
        ahead = λ i l. or_assoc board (eqb k 3) (md_up_to s n i) ∙ ap (λ (x : Bool). board || x) (sym (md-more i l)) ∙ w.ahead i (let z = t.later in omega arith);
      })

  -- it is none that tells a part
  pub passes_on : Unmarked k → Walks s begin n n board
  passes_on u =
      subst (Walks s begin n n) (rw u.md (or-false board))
      (walks_on (rw u.qx refl) n (rw (u.mn, u.pn) refl))

-- A line

module _ (s : List ℕ) (at e : ℕ) (h : at ≤ length s) (f : e ≡ find_from 0x0A s at) where
  pub line-stop : (at ≤ e) × (e ≤ length s)
  line-stop = ((split e (length s) (λ k. rw f (find-after 0x0A s at (rw f at k))) (λ k. omega arith)), rw f (find-within 0x0A s at))

  line-field : field 0 (cut 0x0A (drop at s)) ≡ part s at (e - at)
  unfolding field
  line-field =
      split e (length s)
      (λ k. rw f (ap (field 0) (cut_at 0x0A s at (rw f at k))))
      (λ k. ap (field 0) (cut-end 0x0A s at (rw f at k)) ∙ sym (part-rest s at (e - at) (omega arith)))

  pub line-is : (b : Bool) → b ≡ blank (take (e - at) (drop at s)) → section at e (not b) ≡ line_at s at
  unfolding part
  line-is b q =
      let k = line-stop in
      let l : length (part s at (e - at)) ≡ e - at = part_length s at (e - at) (let x = k.0 in let y = k.1 in omega arith) in
      let z : at + (e - at) ≡ e = (let x = k.0 in omega arith) in
      rw (line-field, l, z, q) refl

pub line-short : (s : List ℕ) (at : ℕ) (p : Section) → at ≤ length s → section_of p ≡ line_at s at → p.stop ≤ length s
line-short s at p h e = let q = ap (λ (x : Part). x.stop) e in let l = line-stops s at h in omega arith

-- A section within the text, which is then taken up to its stop

pub inside-within : (s : List ℕ) (p : Section) → Inside s p → (p.start ≤ length (take p.stop s)) × (length (take p.stop s) < 2 ^ 32)
inside-within s p h = let l = length-take p.stop s in let a = h.begins in let b = h.stops in let c = h.short in (omega arith, omega arith)

pub inside-long : (s : List ℕ) (p : Section) → Inside s p → p.stop ≡ length (take p.stop s)
inside-long s p h = let l = length-take p.stop s in let b = h.stops in omega arith

-- The number of the next board

pub number-stays : (n : ℕ) (b : Bool) → not b ≡ true → n ≡ pick b (sat (n + 1)) n
number-stays n true h = absurd (false≢true h)
number-stays n false h = refl

pub number_more : (n m : ℕ) (b : Bool) → not b ≡ false → m ≡ sat (n + 1) → m ≡ pick b (sat (n + 1)) n
number_more n m true h e = e
number_more n m false h e = absurd (false≢true (sym h))

-- A step, by the tests that it made

differ : {t : Bool} → t ≡ true → t ≡ false → ⊥
differ e f = false≢true (sym f ∙ e)

null-nil : {A : Type 0} (l : List A) → null l ≡ true → l ≡ []
null-nil [] h = refl
null-nil (a ∷ l) h = absurd (false≢true h)

-- with the place that follows a line, or a part
line-past : (c : Standing) (p : Part) → c.lines ≡ true → past c p (p.stop + 1) ≡ found c.number p (after c p)
line-past c p l = simp l

part-past : (c : Standing) (p : Part) → c.lines ≡ false → past c p p.stop ≡ found c.number p (after c p)
part-past c p l = simp l

module _ (s : List ℕ) (c : BoardCursor) where
  abbrev st : Standing
  st = standing_of c

  module _ (l : c.lines ≡ true) where
    pub line-ended : length s < c.at → ended st ≡ visit s st
    line-ended h = sym (visit-is s st ∙ simp (l, lt-ltb (length s) c.at h))

    pub line-passed : c.at ≤ length s → (p : Section) → section_of p ≡ line_at s c.at → {r : Visit} → r ≡ past st (section_of p) (p.stop + 1) → r ≡ visit s st
    line-passed h p e f =
        f ∙ line-past st (section_of p) l ∙ ap (λ (q : Part). found c.number q (after st q)) e ∙ sym (visit-is s st ∙ simp (l, le-ltb (length s) c.at h))

  module _ (l : c.lines ≡ false) (p : Section) (e : section_of p ≡ part_from s c.at) where
    stop_is : p.stop ≡ part_end c.at c.at c.at (stream s c.at)
    stop_is = ap (λ (q : Part). q.stop) e

    pub part-ended : p.stop ≤ c.at → ended st ≡ visit s st
    part-ended h = go (null (stream s c.at)) refl
      where
        go : (t : Bool) → null (stream s c.at) ≡ t → ended st ≡ visit s st
        go true n = sym (visit-is s st ∙ simp (l, n))
        go false n = absurd (let z = (part-later s c.at n).0 in let y = stop_is in let x : ⊥ = omega arith in x)

    pub part-passed : c.at < p.stop → {r : Visit} → r ≡ past st (section_of p) p.stop → r ≡ visit s st
    unfolding part_end
    part-passed h {r} f = go (null (stream s c.at)) refl
      where
        go : (t : Bool) → null (stream s c.at) ≡ t → r ≡ visit s st
        go true n = absurd (let y : p.stop ≡ c.at = stop_is ∙ ap (part_end c.at c.at c.at) (null-nil (stream s c.at) n) in let x : ⊥ = omega arith in x)
        go false n = f ∙ part-past st (section_of p) l ∙ ap (λ (q : Part). found c.number q (after st q)) e ∙ sym (visit-is s st ∙ simp (l, n))

-- The search for the next board: what it gives from a cursor on its way is what it gives from where it began

pub record Seeking (s : List ℕ) (c₀ c : Standing) : Type 0 where
  pub same : first_of c₀ (boards_of (remaining s c)) ≡ next_board s c₀
  pub number : c.number ≡ c₀.number
  pub lines : c.lines ≡ c₀.lines

pub seeking_begins : (s : List ℕ) (c : Standing) → Seeking s c c
unfolding next_board
seeking_begins s c = record { same = refl; number = refl; lines = refl }

-- what a step that was called for and taken apart says
pub seen : (s : List ℕ) (c : BoardCursor) (r : BoardStep) (f : Option (ℕ × Section)) → visit_of r ≡ visit s (standing_of c) → r.found ≡ f
    → Visited s (standing_of c) (visit_by f (standing_of r.cursor))
seen s c r f e h = visits s (standing_of c) _ (sym e ∙ ap (λ x. visit_by x (standing_of r.cursor)) h)

module _ (s : List ℕ) (c₀ c : Standing) (k : Seeking s c₀ c) where
  module _ (n : ℕ) (p : Part) (d : Standing) (f : Found s c n p d) where
    pub seeking_on : p.board ≡ false → Seeking s c₀ d
    seeking_on h =
        record {
          same = ap (first_of c₀) (sym (front-other s c n p d f h)) ∙ k.same;
          number = number-other s c n p d f h ∙ k.number;
          lines = same_lines s c n p d f ∙ k.lines;
        }

    pub seeking_found : p.board ≡ true → found n p d ≡ next_board s c₀
    seeking_found h =
        let a : after c p ≡ after c₀ p = (let l = k.lines in let m = k.number in rw (l, m) refl) in
        ap (λ (i : ℕ). found i p d) (f.number ∙ k.number) ∙ ap (found c₀.number p) (f.cursor ∙ a) ∙ ap (first_of c₀) (sym (front-board s c n p d f h)) ∙ k.same

  pub seeking_ended : remaining s c ≡ [] → ended c₀ ≡ next_board s c₀
  unfolding keep
  seeking_ended e = ap (λ (ps : List Part). first_of c₀ (boards_of ps)) (sym e) ∙ k.same

-- Opening, by the answer of `open`
module _ (s : List ℕ) (o : Result Cursor Refusal) (e : opened_at o ≡ open_text s) where
  pub boards-opened : (c : Cursor) → o ≡ Ok c → (b : Bool) → b ≡ holds (ascii "qx") (stream s 0) → Ok (record { at = 0; number = 0; lines = not b }) ≡ open_boards s
  unfolding open_boards open_text
  boards-opened c f b h =
      let x : Standing = record { at = 0; number = 0; lines = not (holds (ascii "qx") (stream s 0)) } in
      let z : unless [] x ≡ Ok x = unfold unless in refl in
      rw h (sym (unless-passed (too_long s ∷ not_utf8 s ∷ []) [] 0 c.at x (sym e ∙ ap opened_at f) ∙ z))

  pub boards-refused : (r : Refusal) → o ≡ Err r → Err r ≡ open_boards s
  unfolding open_boards open_text
  boards-refused r f = sym (unless-refused (too_long s ∷ not_utf8 s ∷ []) [] 0 _ r (sym e ∙ ap opened_at f))
