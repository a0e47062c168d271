-- Laws of a file's sections: a text's tokens up to a place, the sections from a place on, and what a board cursor visits. (01: File)
-- Assumes nothing.
use Rattle.std.specs.Prelude.{Ok}
use Prim.Native.Nat.{ℕ, zero, suc, ◌+◌, ◌-◌, ◌≤◌, ◌<◌}
use native.Mathlib.Omega.{arith}
use mathlib.Core.Path.{◌≡◌, refl, ap, sym, subst, ◌∙◌}
use mathlib.Core.Bool.{Bool, true, false, not, false≢true}
use mathlib.Core.List.{List, [], ◌∷◌, ◌++◌, append_assoc}
use lib.ListN.{length, take, drop, get_or, length-append, length-drop}
use lib.Seq.{take-append-le, take-append-add, take-nil, get_or-drop, get_or-append_seam}
use lib.Dec.{eqb, ltb, leb}
use borrow.Author.Tests.{lt-ltb, le-ltb, le-leb, lt-leb, ltb-true, ltb-false}
use Rattle.lin_spec.specs.Base.{pick, any, keep, null, ascii}
use Rattle.lin_spec.specs.Records.{span, end_of}
use Rattle.lin_spec.specs.White.{blank, is_command}
use Rattle.lin_spec.specs.Tokens.{Pieces, cut, count, pipe, TokenOf}
use Rattle.lin_spec.specs.Tokens.Pieces.{end, piece}
use Rattle.lin_spec.specs.Tokens.TokenOf.{token}
use Rattle.lin_spec.specs.Cards.{field}
use Rattle.lin_spec.specs.Reading.{placed, stream}
use Rattle.lin_spec.specs.File.{Section, section, holds, leads, part_at, parts_from, lines_from, lines_at, parts_at, sections, Standing, Visit, remaining, first_of, after, visit, open_boards}
use Rattle.lin_spec.specs.Refusals.{sat, too_long, not_utf8}
use Rattle.lin_spec.specs.File.Visit.{found, ended}
use Rattle.lin_spec.specs.Visits.{line_at, part_end, part_from}
use Rattle.lin_spec.specs.declared.Span.{Span}
use Rattle.lin_spec.proofs.Base.{picked, split}
use Rattle.lin_spec.proofs.Tokens.{joined, cuts, Whole, joined-cut, whole-cut, cuts-cut, cut-piece, cut-joined, count-append}
use Rattle.lin_spec.proofs.Cursor.{after-piece}
use Rattle.lin_spec.proofs.Checks.{unless-same}

-- The tokens from a place on, one after the other

pub data Chain (s : List ℕ) : (at : ℕ) → Type 0 where
  done : {at : ℕ} → stream s at ≡ [] → Chain s at
  more : {at : ℕ} (c : List ℕ) (v : Span) → stream s at ≡ token c v ∷ stream s (end_of v + 1) → at < end_of v + 1 → end_of v + 1 ≤ length s → get_or s (end_of v) 0 ≡ pipe → Chain s (end_of v + 1) → Chain s at

-- two pieces end within the text
after_two : (s : List ℕ) (at : ℕ) (x y t : List ℕ) → drop at s ≡ x ++ pipe ∷ (y ++ pipe ∷ t) → at + (length x + 1) + (length y + 1) ≤ length s
after_two s at x y t e =
    let l : length s - at ≡ length x + suc (length y + suc (length t)) = sym (length-drop at s) ∙ ap length e ∙ simp length-append in
    omega arith

-- the byte that ends a piece
piece-end : (c : ℕ) (s : List ℕ) (at : ℕ) (x t : List ℕ) → drop at s ≡ x ++ c ∷ t → get_or s (at + length x) 0 ≡ c
piece-end c s at x t e = sym (get_or-drop at s (length x) 0) ∙ ap (λ (l : List ℕ). get_or l (length x) 0) e ∙ get_or-append_seam x c t 0

chain_by : (s : List ℕ) (at : ℕ) (p : Pieces) → drop at s ≡ joined pipe p → Whole pipe p → Chain s at
unfolding joined Whole stream placed
chain_by s at (end x) e w = done {at = at} (simp (e, cut-joined pipe (end x) w))
chain_by s at (piece x (end y)) e w = done {at = at} (simp (e, cut-joined pipe (piece x (end y)) w))
chain_by s at (piece x (piece y r)) e w =
    let d = after-piece pipe s at x _ e in
    let n = after-piece pipe s (at + (length x + 1)) y _ d in
    let q : at + (length x + 1) + length y + 1 ≡ at + (length x + 1) + (length y + 1) = omega arith in
    more {at = at} x (span (at + (length x + 1)) (length y)) (simp (e, cut-joined pipe (piece x (piece y r)) w, q, n, cut-joined pipe r w.1.1)) (omega arith) (rw q (after_two s at x y _ e)) (piece-end pipe s (at + (length x + 1)) y _ d)
    (rw q (chain_by s (at + (length x + 1) + (length y + 1)) r n w.1.1))

pub chain : (s : List ℕ) (at : ℕ) → Chain s at
chain s at = chain_by s at (cut pipe (drop at s)) (sym (joined-cut pipe (drop at s))) (whole-cut pipe (drop at s))

-- The parts from a place on where one begins

-- the mn and pn tokens from `back` to `at` change nothing: a part that begins at `back` is read on from `at`
pub record Led (s : List ℕ) (back at : ℕ) : Type 0 where
  pub same : parts_from s back back back (stream s back) ≡ parts_from s back back at (stream s at)
  pub there : null (stream s at) ≡ false → null (stream s back) ≡ false

led_here : (s : List ℕ) (at : ℕ) → Led s at at
led_here s at = record { same = refl; there = λ h. h }

led_on : (s : List ℕ) (back at : ℕ) (c : List ℕ) (v : Span) → stream s at ≡ token c v ∷ stream s (end_of v + 1) → is_command c (ascii "qx") ≡ false → leads c ≡ true → Led s back at → Led s back (end_of v + 1)
unfolding parts_from
led_on s back at c v e q l h = record { same = h.same ∙ simp (e, q, l); there = λ k. h.there (ap null e) }

abbrev Here : (s : List ℕ) (begin back at : ℕ) → Type 0
Here s begin back at = parts_from s begin back at (stream s at) ≡ part_at s begin (part_end begin back at (stream s at)) ∷ parts_at s (part_end begin back at (stream s at))

part-here : (s : List ℕ) (at : ℕ) → Chain s at → (begin back : ℕ) → Led s back at → Here s begin back at
unfolding parts_from part_end parts_at
part-here s at (done e) begin back l = simp e
part-here s at (more c v e m z u r) begin back l = go (is_command c (ascii "qx")) refl (ltb begin back) refl (leads c) refl (part-here s (end_of v + 1) r)
  where
    again : is_command c (ascii "qx") ≡ true → parts_at s back ≡ parts_from s back (end_of v + 1) (end_of v + 1) (stream s (end_of v + 1))
    again q = simp (l.there (ap null e)) (l.same ∙ simp (e, q, le-ltb back back (omega arith)))

    go : (q : Bool) → is_command c (ascii "qx") ≡ q → (t : Bool) → ltb begin back ≡ t → (w : Bool) → leads c ≡ w
        → ((b k : ℕ) → Led s k (end_of v + 1) → Here s b k (end_of v + 1)) → Here s begin back at
    go true q true t w u ih = simp (e, q, t, again q)
    go true q false t w u ih = simp (e, q, t) (ih begin (end_of v + 1) (led_here s (end_of v + 1)))
    go false q t x true u ih = simp (e, q, u) (ih begin back (led_on s back at c v e q u l))
    go false q t x false u ih = simp (e, q, u) (ih begin (end_of v + 1) (led_here s (end_of v + 1)))

-- a part, and the parts after it
pub next-part : (s : List ℕ) (at : ℕ) → null (stream s at) ≡ false
    → parts_at s at ≡ part_at s at (part_end at at at (stream s at)) ∷ parts_at s (part_end at at at (stream s at))
next-part s at h = (let z : parts_at s at ≡ parts_from s at at at (stream s at) = unfold parts_at in simp h in z) ∙ part-here s at (chain s at) at at (led_here s at)

-- The lines from a place on where one begins

pub next-line : (s : List ℕ) (at : ℕ) → at ≤ length s → lines_at s at ≡ line_at s at ∷ lines_at s ((line_at s at).stop + 1)
unfolding lines_at lines_from joined Whole field
next-line s at h = simp (le-ltb (length s) at h) (go (cut 0x0A (drop at s)) refl)
  where
    go : (p : Pieces) → cut 0x0A (drop at s) ≡ p → lines_from at p ≡ section at (at + length (field 0 p)) (not (blank (field 0 p))) ∷ lines_at s (at + length (field 0 p) + 1)
    go (end x) e =
        let f : drop at s ≡ x = sym (joined-cut 0x0A (drop at s)) ∙ ap (joined 0x0A) e in
        let l : length s - at ≡ length x = sym (length-drop at s) ∙ ap length f in
        simp (lt-ltb (length s) (at + length x + 1) (omega arith))
    go (piece x r) e =
        let w = (subst (Whole 0x0A) e (whole-cut 0x0A (drop at s))).1 in
        let f : drop at s ≡ x ++ 0x0A ∷ joined 0x0A r = sym (joined-cut 0x0A (drop at s)) ∙ ap (joined 0x0A) e in
        let d = after-piece 0x0A s at x _ f in
        let l : length s - at ≡ length x + suc (length (joined 0x0A r)) = sym (length-drop at s) ∙ ap length f ∙ length-append x _ in
        let q : at + length x + 1 ≡ at + (length x + 1) = omega arith in
        simp (q, le-ltb (length s) (at + (length x + 1)) (omega arith), d, cut-joined 0x0A r w)

-- The tokens of the first e bytes are those that end there

unfoldable pub up_to : (e : ℕ) → List (TokenOf Span) → List (TokenOf Span)
up_to e [] = []
up_to e (token c v ∷ ts) = pick (leb (end_of v + 1) e) (token c v ∷ up_to e ts) []

few-placed : (at : ℕ) (p : Pieces) → cuts p ≤ 1 → placed at p ≡ []
unfolding placed cuts
few-placed at (end x) h = refl
few-placed at (piece x (end y)) h = refl
few-placed at (piece x (piece y r)) h = absurd (let z : ⊥ = omega arith in z)

few-cut : (at : ℕ) (x : List ℕ) → count pipe x ≤ 1 → placed at (cut pipe x) ≡ []
few-cut at x h = few-placed at (cut pipe x) (rw (cuts-cut pipe x) h)

count-take : (c m : ℕ) (x : List ℕ) → count c (take m x) ≤ count c x
unfolding keep
count-take c zero [] = omega arith
count-take c zero (b ∷ x) = omega arith
count-take c (suc m) [] = omega arith
count-take c (suc m) (b ∷ x) = go (eqb b c) (count-take c m x)
  where
    go : (t : Bool) → count c (take m x) ≤ count c x → length (pick t (b ∷ keep (λ d. eqb d c) (take m x)) (keep (λ d. eqb d c) (take m x))) ≤ length (pick t (b ∷ keep (λ d. eqb d c) x) (keep (λ d. eqb d c) x))
    go true h = omega arith
    go false h = h

one-pipe : (x y : List ℕ) → count pipe x ≡ 0 → count pipe y ≡ 0 → count pipe (x ++ pipe ∷ y) ≡ 1
unfolding keep
one-pipe x y h k = count-append pipe x (pipe ∷ y) ∙ simp (h, k)

-- a text cut short within its first two pieces, and after them
module _ (at m : ℕ) (x y t : List ℕ) (h : count pipe x ≡ 0) (k : count pipe y ≡ 0) where
  abbrev two : List ℕ
  two = x ++ pipe ∷ (y ++ pipe ∷ t)

  abbrev v : Span
  v = span (at + (length x + 1)) (length y)

  short_cut : m < length x + 1 + (length y + 1) → placed at (cut pipe (take m two)) ≡ []
  short_cut l =
      let a : two ≡ (x ++ pipe ∷ y) ++ (pipe ∷ t) = sym (append_assoc x (pipe ∷ y) (pipe ∷ t)) in
      let n : length (x ++ pipe ∷ y) ≡ length x + suc (length y) = length-append x (pipe ∷ y) in
      let b : take m two ≡ take m (x ++ pipe ∷ y) = ap (take m) a ∙ take-append-le m (x ++ pipe ∷ y) (pipe ∷ t) (omega arith) in
      few-cut at (take m two) (let c = count-take pipe m (x ++ pipe ∷ y) in let o = one-pipe x y h k in rw b (omega arith))

  long-cut : length x + 1 + (length y + 1) ≤ m → placed at (cut pipe (take m two)) ≡ token x v ∷ placed (at + (length x + 1) + (length y + 1)) (cut pipe (take (m - (length x + 1 + (length y + 1))) t))
  unfolding placed
  long-cut l =
      let j = m - (length x + 1 + (length y + 1)) in
      let q : m ≡ length x + suc (length y + suc j) = omega arith in
      let b : take m two ≡ x ++ pipe ∷ (y ++ pipe ∷ take j t) =
      ap (λ (i : ℕ). take i two) q ∙ take-append-add x (pipe ∷ (y ++ pipe ∷ t)) (suc (length y + suc j)) ∙ ap (λ (z : List ℕ). x ++ pipe ∷ z) (take-append-add y (pipe ∷ t) (suc j)) in
      simp (b, cut-piece pipe x (y ++ pipe ∷ take j t) h, cut-piece pipe y (take j t) k)

take-placed : (at m : ℕ) (p : Pieces) → Whole pipe p → placed at (cut pipe (take m (joined pipe p))) ≡ up_to (at + m) (placed at p)
unfolding joined Whole placed up_to
take-placed at m (end x) w = few-cut at (take m x) (let h = count-take pipe m x in omega arith)
take-placed at m (piece x (end y)) w = few-cut at (take m (x ++ pipe ∷ y)) (let h = count-take pipe m (x ++ pipe ∷ y) in let k = one-pipe x y w.0 w.1 in omega arith)
take-placed at m (piece x (piece y r)) w =
    let n = at + (length x + 1) + (length y + 1) in
    let z = length x + 1 + (length y + 1) in
    let ih = take-placed n (m - z) r w.1.1 in
    split m z
    (λ l. short_cut at m x y (joined pipe r) w.0 w.1.0 l ∙ sym (simp (lt-leb (at + (length x + 1) + length y + 1) (at + m) (omega arith))))
    (λ l.
    long-cut at m x y (joined pipe r) w.0 w.1.0 l
    ∙ simp (ih, le-leb (at + (length x + 1) + length y + 1) (at + m) (omega arith), (let q : n + (m - z) ≡ at + m = omega arith in q)))

pub drop-take : (a e : ℕ) (s : List ℕ) → drop a (take e s) ≡ take (e - a) (drop a s)
drop-take zero e s = let q : e ≡ e - 0 = omega arith in ap (λ (i : ℕ). take i s) q
drop-take (suc a) zero s = let q : 0 ≡ 0 - suc a = omega arith in ap (λ (i : ℕ). take i (drop (suc a) s)) q
drop-take (suc a) (suc e) [] = sym (take-nil (suc e - suc a))
drop-take (suc a) (suc e) (b ∷ s) = let q : e - a ≡ suc e - suc a = omega arith in drop-take a e s ∙ ap (λ (i : ℕ). take i (drop a s)) q

-- no token from a place on ends there
none-placed : (e at : ℕ) → e ≤ at → (p : Pieces) → up_to e (placed at p) ≡ []
unfolding placed up_to
none-placed e at h (end x) = refl
none-placed e at h (piece x (end y)) = refl
none-placed e at h (piece x (piece y r)) = simp (lt-leb (at + (length x + 1) + length y + 1) e (omega arith))

pub none_yet : (s : List ℕ) (e at : ℕ) → e ≤ at → up_to e (stream s at) ≡ []
unfolding stream
none_yet s e at h = none-placed e at h (cut pipe (drop at s))

pub stream-take : (s : List ℕ) (a e : ℕ) → stream (take e s) a ≡ up_to e (stream s a)
unfolding stream placed cut
stream-take s a e =
    split e a
    (λ h.
    let q : e - a ≡ 0 = omega arith in
    rw (drop-take a e s, q) (sym (none-placed e a (omega arith) (cut pipe (drop a s)))))
    (λ h.
    let q : a + (e - a) ≡ e = omega arith in
    let t = take-placed a (e - a) (cut pipe (drop a s)) (whole-cut pipe (drop a s)) in
    rw (drop-take a e s) (rw (joined-cut pipe (drop a s), q) at t))

-- A part ends after it begins, and within the text

part-ends : (s : List ℕ) (at : ℕ) → Chain s at → (begin back : ℕ) → begin < at → back ≤ at → at ≤ length s
    → (begin < part_end begin back at (stream s at)) × (part_end begin back at (stream s at) ≤ length s)
unfolding part_end
part-ends s at (done e) begin back h k l = simp e (h, l)
part-ends s at (more c v e m z u r) begin back h k l = go (is_command c (ascii "qx")) refl (ltb begin back) refl (leads c) refl (part-ends s (end_of v + 1) r)
  where
    go : (q : Bool) → is_command c (ascii "qx") ≡ q → (t : Bool) → ltb begin back ≡ t → (w : Bool) → leads c ≡ w
        → ((b d : ℕ) → b < end_of v + 1 → d ≤ end_of v + 1 → end_of v + 1 ≤ length s → (b < part_end b d (end_of v + 1) (stream s (end_of v + 1))) × (part_end b d (end_of v + 1) (stream s (end_of v + 1)) ≤ length s))
        → (begin < part_end begin back at (stream s at)) × (part_end begin back at (stream s at) ≤ length s)
    go true q true t w u ih = simp (e, q, t) (ltb-true begin back t, (let y : back ≤ length s = omega arith in y))
    go true q false t w u ih = simp (e, q, t) (ih begin (end_of v + 1) (omega arith) (omega arith) z)
    go false q t x true u ih = simp (e, q, u) (ih begin back (omega arith) (omega arith) z)
    go false q t x false u ih = simp (e, q, u) (ih begin (end_of v + 1) (omega arith) (omega arith) z)

pub part-later : (s : List ℕ) (at : ℕ) → null (stream s at) ≡ false → (at < part_end at at at (stream s at)) × (part_end at at at (stream s at) ≤ length s)
unfolding part_end
part-later s at h = go (chain s at)
  where
    go : Chain s at → (at < part_end at at at (stream s at)) × (part_end at at at (stream s at) ≤ length s)
    go (done e) = absurd (false≢true (sym h ∙ ap null e))
    go (more c v e m z u r) = step (is_command c (ascii "qx")) refl (leads c) refl
      where
        step : (q : Bool) → is_command c (ascii "qx") ≡ q → (w : Bool) → leads c ≡ w → (at < part_end at at at (stream s at)) × (part_end at at at (stream s at) ≤ length s)
        step true q w u = simp (e, q, le-ltb at at (omega arith)) (part-ends s (end_of v + 1) r at (end_of v + 1) m (omega arith) z)
        step false q true u = simp (e, q, u) (part-ends s (end_of v + 1) r at at m (omega arith) z)
        step false q false u = simp (e, q, u) (part-ends s (end_of v + 1) r at (end_of v + 1) m (omega arith) z)

-- and after a pipe

part-pipe : (s : List ℕ) (at : ℕ) → Chain s at → (begin back : ℕ) → (begin < back → get_or s (back - 1) 0 ≡ pipe) → get_or s (at - 1) 0 ≡ pipe
    → get_or s (part_end begin back at (stream s at) - 1) 0 ≡ pipe
unfolding part_end
part-pipe s at (done e) begin back k l = simp e l
part-pipe s at (more c v e m z u r) begin back k l = go (is_command c (ascii "qx")) refl (ltb begin back) refl (leads c) refl (part-pipe s (end_of v + 1) r)
  where
    here : get_or s (end_of v + 1 - 1) 0 ≡ pipe
    here = let q : end_of v + 1 - 1 ≡ end_of v = omega arith in ap (λ (i : ℕ). get_or s i 0) q ∙ u

    go : (q : Bool) → is_command c (ascii "qx") ≡ q → (t : Bool) → ltb begin back ≡ t → (w : Bool) → leads c ≡ w
        → ((b d : ℕ) → (b < d → get_or s (d - 1) 0 ≡ pipe) → get_or s (end_of v + 1 - 1) 0 ≡ pipe → get_or s (part_end b d (end_of v + 1) (stream s (end_of v + 1)) - 1) 0 ≡ pipe)
        → get_or s (part_end begin back at (stream s at) - 1) 0 ≡ pipe
    go true q true t w x ih = simp (e, q, t) (k (ltb-true begin back t))
    go true q false t w x ih = simp (e, q, t) (ih begin (end_of v + 1) (λ h. here) here)
    go false q t y true x ih = simp (e, q, x) (ih begin back k here)
    go false q t y false x ih = simp (e, q, x) (ih begin (end_of v + 1) (λ h. here) here)

part_cut : (s : List ℕ) (at : ℕ) → null (stream s at) ≡ false → get_or s (part_end at at at (stream s at) - 1) 0 ≡ pipe
unfolding part_end
part_cut s at h = go (chain s at)
  where
    go : Chain s at → get_or s (part_end at at at (stream s at) - 1) 0 ≡ pipe
    go (done e) = absurd (false≢true (sym h ∙ ap null e))
    go (more c v e m z u r) = step (is_command c (ascii "qx")) refl (leads c) refl
      where
        here : get_or s (end_of v + 1 - 1) 0 ≡ pipe
        here = let q : end_of v + 1 - 1 ≡ end_of v = omega arith in ap (λ (i : ℕ). get_or s i 0) q ∙ u

        step : (q : Bool) → is_command c (ascii "qx") ≡ q → (w : Bool) → leads c ≡ w → get_or s (part_end at at at (stream s at) - 1) 0 ≡ pipe
        step true q w x = simp (e, q, le-ltb at at (omega arith)) (part-pipe s (end_of v + 1) r at (end_of v + 1) (λ l. here) here)
        step false q true x = simp (e, q, x) (part-pipe s (end_of v + 1) r at at (λ l. absurd (let y : ⊥ = omega arith in y)) here)
        step false q false x = simp (e, q, x) (part-pipe s (end_of v + 1) r at (end_of v + 1) (λ l. here) here)

-- a line ends with the text or before an LF
line-cut : (s : List ℕ) (at : ℕ) → at ≤ length s → (line_at s at).stop < length s → get_or s (line_at s at).stop 0 ≡ 0x0A
unfolding field joined
line-cut s at l = go (cut 0x0A (drop at s)) (sym (joined-cut 0x0A (drop at s)))
  where
    go : (p : Pieces) → drop at s ≡ joined 0x0A p → at + length (field 0 p) < length s → get_or s (at + length (field 0 p)) 0 ≡ 0x0A
    go (end x) e h = absurd (let n : length s - at ≡ length x = sym (length-drop at s) ∙ ap length e in let z : ⊥ = omega arith in z)
    go (piece x r) e h = piece-end 0x0A s at x (joined 0x0A r) e

-- What a board cursor visits

-- a step by the tests of its code: the line or the part at the cursor, if there is one
abbrev pub line_step : (s : List ℕ) → Standing → Visit
line_step s c = pick (ltb (length s) c.at) (ended c) (found c.number (line_at s c.at) (after c (line_at s c.at)))

abbrev pub part_step : (s : List ℕ) → Standing → Visit
part_step s c = pick (null (stream s c.at)) (ended c) (found c.number (part_from s c.at) (after c (part_from s c.at)))

pub visit-is : (s : List ℕ) (c : Standing) → visit s c ≡ pick c.lines (line_step s c) (part_step s c)
unfolding visit lines_at parts_at
visit-is s c = go c.lines
  where
    lines : (t : Bool) → ltb (length s) c.at ≡ t → first_of c (lines_at s c.at) ≡ pick t (ended c) (found c.number (line_at s c.at) (after c (line_at s c.at)))
    lines true e = simp e
    lines false e = ap (first_of c) (next-line s c.at (ltb-false (length s) c.at e))

    parts : (t : Bool) → null (stream s c.at) ≡ t → first_of c (parts_at s c.at) ≡ pick t (ended c) (found c.number (part_from s c.at) (after c (part_from s c.at)))
    parts true e = simp e
    parts false e = ap (first_of c) (next-part s c.at e)

    go : (t : Bool) → first_of c (pick t (lines_at s c.at) (parts_at s c.at)) ≡ pick t (line_step s c) (part_step s c)
    go true = lines (ltb (length s) c.at) refl
    go false = parts (null (stream s c.at)) refl

-- where a section may end: a line with the text or before an LF, a part after a pipe
abbrev pub Cut : (s : List ℕ) (lines : Bool) (stop : ℕ) → Type 0
Cut s true e = e < length s → get_or s e 0 ≡ 0x0A
Cut s false e = get_or s (e - 1) 0 ≡ pipe

pub record Found (s : List ℕ) (c : Standing) (n : ℕ) (p : Section) (d : Standing) : Type 0 where
  pub number : n ≡ c.number
  pub cursor : d ≡ after c p
  pub next : d.number ≡ pick p.board (sat (c.number + 1)) c.number
  pub front : remaining s c ≡ p ∷ remaining s d
  pub later : c.at < d.at
  pub within : d.at ≤ length s + 1
  pub begins : p.start ≤ p.stop
  pub stops : p.stop ≤ length s
  pub starts : p.start ≡ c.at
  pub ends : Cut s c.lines p.stop

abbrev pub Visited : (s : List ℕ) (c : Standing) → Visit → Type 0
Visited s c (found n p d) = Found s c n p d
Visited s c (ended d) = (d ≡ c) × (remaining s c ≡ [])

first_short : (p : Pieces) → length (field 0 p) ≤ length (joined 0x0A p)
unfolding field joined
first_short (end x) = omega arith
first_short (piece x r) = rw (length-append x (0x0A ∷ joined 0x0A r)) (omega arith)

pub line-stops : (s : List ℕ) (at : ℕ) → at ≤ length s → (line_at s at).stop ≤ length s
line-stops s at h =
    let p = cut 0x0A (drop at s) in
    let f : length s - at ≡ length (joined 0x0A p) = sym (length-drop at s) ∙ ap length (sym (joined-cut 0x0A (drop at s))) in
    let k = first_short p in
    omega arith

pub visited : (s : List ℕ) (c : Standing) → Visited s c (visit s c)
visited s c = subst (Visited s c) (sym (visit-is s c)) (picked (Visited s c) c.lines (λ l. lines (ltb (length s) c.at) l refl) (λ l. parts (null (stream s c.at)) l refl))
  where
    lines : (t : Bool) → c.lines ≡ true → ltb (length s) c.at ≡ t → Visited s c (pick t (ended c) (found c.number (line_at s c.at) (after c (line_at s c.at))))
    lines true l e = (refl, (unfold lines_at in simp (l, e)))
    lines false l e =
        let h = ltb-false (length s) c.at e in
        let w = line-stops s c.at h in
        record { number = refl; cursor = refl; next = refl; front = simp l (next-line s c.at h); later = rw l (omega arith); within = rw l (omega arith); begins = omega arith; stops = w; starts = refl; ends = rw l (line-cut s c.at h) }

    parts : (t : Bool) → c.lines ≡ false → null (stream s c.at) ≡ t → Visited s c (pick t (ended c) (found c.number (part_from s c.at) (after c (part_from s c.at))))
    parts true l e = (refl, (unfold parts_at in simp (l, e)))
    parts false l e =
        let w = part-later s c.at e in
        let k = w.0 in
        let m = w.1 in
        record { number = refl; cursor = refl; next = refl; front = simp l (next-part s c.at e); later = rw l k; within = rw l (omega arith); begins = omega arith; stops = m; starts = refl; ends = rw l (part_cut s c.at e) }

pub visits : (s : List ℕ) (c : Standing) (v : Visit) → visit s c ≡ v → Visited s c v
visits s c v e = subst (Visited s c) e (visited s c)

-- A cursor that is opened and stepped until it gives no section gives the file's sections in order, each with the number of boards before it.

pub data Visits (s : List ℕ) : Standing → List Section → Type 0 where
  stop : {c : Standing} {d : Standing} → visit s c ≡ ended d → Visits s c []
  step : {c : Standing} {n : ℕ} {p : Section} {d : Standing} {ps : List Section} → visit s c ≡ found n p d → Visits s d ps → Visits s c (p ∷ ps)

visits_remaining : (s : List ℕ) (c : Standing) (ps : List Section) → Visits s c ps → ps ≡ remaining s c
visits_remaining s c [] (stop {d = d} e) = sym (visits s c (ended d) e).1
visits_remaining s c (p ∷ ps) (step {n = n} {d = d} e r) = let f = visits s c (found n p d) e in ap (λ (l : List Section). p ∷ l) (visits_remaining s d ps r) ∙ sym f.front

-- at the first byte all sections remain
pub all_remain : (s : List ℕ) → remaining s (record { at = 0; number = 0; lines = not (holds (ascii "qx") (stream s 0)) }) ≡ sections s
unfolding sections
all_remain s = go (holds (ascii "qx") (stream s 0)) refl
  where
    go : (t : Bool) → holds (ascii "qx") (stream s 0) ≡ t → pick (not t) (lines_at s 0) (parts_at s 0) ≡ pick t (parts_from s 0 0 0 (stream s 0)) (lines_from 0 (cut 0x0A s))
    go true e = unfold parts_at in simp (some-token (stream s 0) e)
      where
        some-token : (ts : List (TokenOf Span)) → holds (ascii "qx") ts ≡ true → null ts ≡ false
        some-token [] h = absurd (false≢true (unfold any in h))
        some-token (t ∷ ts) h = refl
    go false e = unfold lines_at in simp (le-ltb (length s) 0 (omega arith))

pub visits_all : (s : List ℕ) (c : Standing) (ps : List Section) → open_boards s ≡ Ok c → Visits s c ps → ps ≡ sections s
unfolding open_boards
visits_all s c ps e v = visits_remaining s c ps v ∙ ap (remaining s) (sym (unless-same (too_long s ∷ not_utf8 s ∷ []) _ c e)) ∙ all_remain s
