-- Laws of the steps to the next board: what one gives and where it leads; the boards that steps from the first byte give, by their numbers; and where a
-- text that is not UTF-8 is refused. (01: File; Eight refusals, 2)
-- Assumes nothing.
use Prim.Native.Nat.{ℕ, suc, ◌+◌, ◌-◌, ◌≤◌, ◌<◌}
use native.Mathlib.Omega.{arith}
use mathlib.Core.Path.{◌≡◌, refl, ap, sym, subst, ◌∙◌}
use mathlib.Core.Bool.{Bool, true, false, ◌&&◌, and-true}
use mathlib.Core.List.{List, [], ◌∷◌, ◌++◌, append-nil, append_assoc}
use lib.ListN.{length, take, drop, get_or, length-append, length-drop, drop_of_length-le}
use lib.Seq.{take_at, take_all, take-suc, split_at, get_or-drop, drop-drop}
use Rattle.lin_spec.specs.Base.{pick, keep}
use Rattle.lin_spec.specs.File.{Section, boards_of, Standing, Visit, remaining, first_of, after, visit, next_board}
use Rattle.lin_spec.specs.File.Visit.{found, ended}
use Rattle.lin_spec.specs.Records.{part}
use Rattle.lin_spec.specs.Utf8.{utf8, longest}
use Rattle.lin_spec.specs.Tokens.{pipe}
use Rattle.lin_spec.proofs.Base.{and_left, and_right, split}
use Rattle.lin_spec.proofs.Utf8.{Ascii, utf8_append, utf8-ascii, utf8-cut, longest-after, longest-cut}
use Rattle.lin_spec.proofs.File.{Cut, Found, Visited, visited}

-- What a step to the next board gives: the first board that remains, its bounds, and the boards that remain after it.

pub record Next (s : List ℕ) (c : Standing) (n : ℕ) (p : Section) (d : Standing) : Type 0 where
  pub number : n ≡ c.number
  pub cursor : d ≡ after c p
  pub board : p.board ≡ true
  pub front : boards_of (remaining s c) ≡ p ∷ boards_of (remaining s d)
  pub later : c.at < d.at
  pub within : d.at ≤ length s + 1
  pub starts : c.at ≤ p.start
  pub begins : p.start ≤ p.stop
  pub stops : p.stop ≤ length s
  pub ends : Cut s c.lines p.stop

abbrev pub Nexts : (s : List ℕ) (c : Standing) → Visit → Type 0
Nexts s c (found n p d) = Next s c n p d
Nexts s c (ended d) = (d ≡ c) × (boards_of (remaining s c) ≡ [])

-- a section that is no board is passed: the boards that remain are those after it
module _ (s : List ℕ) (c : Standing) (n : ℕ) (p : Section) (d : Standing) (f : Found s c n p d) where
  pub front-board : p.board ≡ true → boards_of (remaining s c) ≡ p ∷ boards_of (remaining s d)
  unfolding keep
  front-board h = ap boards_of f.front ∙ simp h

  pub front-other : p.board ≡ false → boards_of (remaining s c) ≡ boards_of (remaining s d)
  unfolding keep
  front-other h = ap boards_of f.front ∙ simp h

  pub number-other : p.board ≡ false → d.number ≡ c.number
  number-other h = f.next ∙ simp h

  pub same_lines : d.lines ≡ c.lines
  same_lines = ap (λ (x : Standing). x.lines) f.cursor

  -- the cursor after a later section is the same from either
  pub after-other : p.board ≡ false → (q : Section) → after d q ≡ after c q
  after-other h q =
      let l = same_lines in
      let m = number-other h in
      rw (l, m) refl

  next_here : p.board ≡ true → Next s c n p d
  next_here h =
      record {
        number = f.number;
        cursor = f.cursor;
        board = h;
        front = front-board h;
        later = f.later;
        within = f.within;
        starts = let e = f.starts in omega arith;
        begins = f.begins;
        stops = f.stops;
        ends = f.ends;
      }

  next-later : p.board ≡ false → (m : ℕ) (q : Section) (e : Standing) → Next s d m q e → Next s c m q e
  next-later h m q e w =
      record {
        number = w.number ∙ number-other h;
        cursor = w.cursor ∙ after-other h q;
        board = w.board;
        front = front-other h ∙ w.front;
        later = let x = f.later in let y = w.later in omega arith;
        within = w.within;
        starts = let x = f.later in let y = w.starts in omega arith;
        begins = w.begins;
        stops = w.stops;
        ends = rw (sym same_lines) w.ends;
      }

  -- what the step gives from the section passed on, it gives from before it
  nexts_later : p.board ≡ false → (qs : List Section) → Nexts s d (first_of d qs) → Nexts s c (first_of c qs)
  nexts_later h [] w = (refl, front-other h ∙ w.1)
  nexts_later h (q ∷ qs) w =
      subst (λ (x : Standing). Next s c c.number q x) (after-other h q)
      (subst (λ (k : ℕ). Next s c k q (after d q)) (number-other h) (next-later h d.number q (after d q) w))

nexts_by : (s : List ℕ) (ps : List Section) (c : Standing) → remaining s c ≡ ps → Nexts s c (first_of c (boards_of ps))
unfolding keep visit
nexts_by s [] c e = (refl, ap boards_of e)
nexts_by s (p ∷ ps) c e = go p.board refl (nexts_by s ps (after c p))
  where
    f : Found s c c.number p (after c p)
    f = subst (Visited s c) (ap (first_of c) e) (visited s c)

    rest : remaining s (after c p) ≡ ps
    rest = ap (drop 1) (sym f.front ∙ e)

    go : (t : Bool) → p.board ≡ t → (remaining s (after c p) ≡ ps → Nexts s (after c p) (first_of (after c p) (boards_of ps))) → Nexts s c (first_of c (pick t (p ∷ boards_of ps) (boards_of ps)))
    go true h ih = next_here s c c.number p (after c p) f h
    go false h ih = nexts_later s c c.number p (after c p) f h (boards_of ps) (ih rest)

pub nexts : (s : List ℕ) (c : Standing) → Nexts s c (next_board s c)
unfolding next_board
nexts s c = nexts_by s (remaining s c) c refl

pub next-is : (s : List ℕ) (c : Standing) (v : Visit) → next_board s c ≡ v → Nexts s c v
next-is s c v e = subst (Nexts s c) e (nexts s c)

-- The bytes that a step looks at end with the text, or at a byte of ASCII: an LF after a line, a pipe that is the last of a part.

pub data Bounded (s : List ℕ) (a : ℕ) (t : List ℕ) (d : ℕ) : Type 0 where
  last : drop a s ≡ t → drop d s ≡ [] → Bounded s a t d
  before : (b : ℕ) → Ascii b → drop a s ≡ t ++ b ∷ drop d s → Bounded s a t d
  behind : (x : List ℕ) (b : ℕ) → Ascii b → t ≡ x ++ (b ∷ []) → drop a s ≡ x ++ b ∷ drop d s → Bounded s a t d

-- a byte at k from a place on, and what stands around it
around : (s : List ℕ) (a k b : ℕ) → a + k < length s → get_or s (a + k) 0 ≡ b → drop a s ≡ take k (drop a s) ++ b ∷ drop (a + suc k) s
around s a k b h e =
    let l = length-drop a s in
    split_at (drop a s) k 0 (omega arith)
    ∙ ap (λ (x : ℕ). take k (drop a s) ++ x ∷ drop (suc k) (drop a s)) (get_or-drop a s k 0 ∙ e)
    ∙ ap (λ (y : List ℕ). take k (drop a s) ++ b ∷ y) (drop-drop (suc k) a s)

line-bounded : (s : List ℕ) (a e : ℕ) → a ≤ e → e ≤ length s → Cut s true e → Bounded s a (part s a (e - a)) (e + 1)
unfolding part
line-bounded s a e h l f =
    split e (length s)
    (λ k.
    let q : a + (e - a) ≡ e = omega arith in
    let r : a + suc (e - a) ≡ e + 1 = omega arith in
    before 0x0A (omega arith) (around s a (e - a) 0x0A (omega arith) (ap (λ (i : ℕ). get_or s i 0) q ∙ f k) ∙ ap (λ (i : ℕ). take (e - a) (drop a s) ++ 0x0A ∷ drop i s) r))
    (λ k. let n = length-drop a s in last (sym (take_all (e - a) (drop a s) (omega arith))) (let o : length s ≤ e + 1 = omega arith in drop_of_length-le s o))

part-bounded : (s : List ℕ) (a e : ℕ) → a < e → e ≤ length s → Cut s false e → Bounded s a (part s a (e - a)) e
unfolding part
part-bounded s a e h l f =
    let k = e - 1 - a in
    let n = length-drop a s in
    let q : a + k ≡ e - 1 = omega arith in
    let r : a + suc k ≡ e = omega arith in
    let m : e - a ≡ suc k = omega arith in
    let c : get_or s (a + k) 0 ≡ pipe = ap (λ (i : ℕ). get_or s i 0) q ∙ f in
    behind (take k (drop a s)) pipe (omega arith)
    (ap (λ (i : ℕ). take i (drop a s)) m ∙ take-suc (drop a s) k 0 (omega arith) ∙ ap (λ (b : ℕ). take k (drop a s) ++ (b ∷ [])) (get_or-drop a s k 0 ∙ c))
    (around s a k pipe (omega arith) c ∙ ap (λ (i : ℕ). take k (drop a s) ++ pipe ∷ drop i s) r)

-- from a cursor's place to the end of a section that it is led past
bounded-by : (s : List ℕ) (c : Standing) (p : Section) (d : Standing) → d ≡ after c p → c.at < d.at → c.at ≤ p.stop → p.stop ≤ length s → Cut s c.lines p.stop
    → Bounded s c.at (part s c.at (p.stop - c.at)) d.at
bounded-by s c p d f h k m u = go c.lines refl u
  where
    go : (t : Bool) → c.lines ≡ t → Cut s t p.stop → Bounded s c.at (part s c.at (p.stop - c.at)) d.at
    go true l x = let e : d.at ≡ p.stop + 1 = ap (λ (y : Standing). y.at) f ∙ simp l in rw e (line-bounded s c.at p.stop k m x)
    go false l x = let e : d.at ≡ p.stop = ap (λ (y : Standing). y.at) f ∙ simp l in rw e (part-bounded s c.at p.stop (omega arith) m x)

pub bounded-section : (s : List ℕ) (c : Standing) (n : ℕ) (p : Section) (d : Standing) → Found s c n p d → Bounded s c.at (part s c.at (p.stop - c.at)) d.at
bounded-section s c n p d f = let x = f.starts in let y = f.begins in bounded-by s c p d f.cursor f.later (omega arith) f.stops f.ends

pub bounded : (s : List ℕ) (c : Standing) (n : ℕ) (p : Section) (d : Standing) → Next s c n p d → Bounded s c.at (part s c.at (p.stop - c.at)) d.at
bounded s c n p d w = let x = w.starts in let y = w.begins in bounded-by s c p d w.cursor w.later (omega arith) w.stops w.ends

-- of a text that is UTF-8 from a place on, the bytes looked at are, and the text after them is
pub bounded-utf8 : (s : List ℕ) (a : ℕ) (t : List ℕ) (d : ℕ) → Bounded s a t d → utf8 (drop a s) ≡ true → (utf8 t ≡ true) × (utf8 (drop d s) ≡ true)
bounded-utf8 s a t d (last e f) h = (ap utf8 (sym e) ∙ h, ap utf8 f ∙ utf8-ascii [] tt)
bounded-utf8 s a t d (before b l e) h =
    let z = sym (utf8-cut t b (drop d s) l) ∙ ap utf8 (sym e) ∙ h in
    (and_left (utf8 t) _ z, and_right (utf8 t) _ z)
bounded-utf8 s a t d (behind x b l f e) h =
    let z = sym (utf8-cut x b (drop d s) l) ∙ ap utf8 (sym e) ∙ h in
    let y : utf8 x ≡ true = and_left (utf8 x) _ z in
    (ap utf8 f ∙ utf8_append x (b ∷ []) y (utf8-ascii (b ∷ []) (l, tt)), and_right (utf8 x) _ z)

-- of bytes that are not UTF-8 the longest well-formed start is that of the text from their place on
pub bounded-longest : (s : List ℕ) (a : ℕ) (t : List ℕ) (d : ℕ) → Bounded s a t d → utf8 t ≡ false → longest (drop a s) ≡ longest t
bounded-longest s a t d (last e f) h = ap longest e
bounded-longest s a t d (before b l e) h = ap longest e ∙ longest-cut t b (drop d s) l h
bounded-longest s a t d (behind x b l f e) h =
    let y : utf8 x ≡ false = sym (and-true (utf8 x)) ∙ ap (λ (z : Bool). utf8 x && z) (sym (utf8-ascii [] tt)) ∙ sym (utf8-cut x b [] l) ∙ ap utf8 (sym f) ∙ h in
    ap longest e ∙ longest-cut x b (drop d s) l y ∙ sym (longest-cut x b [] l y) ∙ ap longest (sym f)

-- past bytes that are UTF-8 it is that of the text after them
pub bounded-past : (s : List ℕ) (a : ℕ) (t : List ℕ) (d : ℕ) → Bounded s a t d → utf8 t ≡ true → a < d → d ≤ length s → longest (drop a s) ≡ (d - a) + longest (drop d s)
bounded-past s a t d w h k l =
    let n = length-drop a s in
    let q : a + (d - a) ≡ d = omega arith in
    longest-after (d - a) (drop a s) (omega arith) (go w)
    ∙ ap (λ (y : List ℕ). (d - a) + longest y) (drop-drop (d - a) a s ∙ ap (λ (i : ℕ). drop i s) q)
  where
    taken : (x y : List ℕ) → drop a s ≡ x ++ y → length y ≡ length s - d → take (d - a) (drop a s) ≡ x
    taken x y e m =
        let n : length s - a ≡ length x + length y = sym (length-drop a s) ∙ ap length e ∙ length-append x y in
        ap (take (d - a)) e ∙ take_at x y (d - a) (omega arith)

    go : Bounded s a t d → utf8 (take (d - a) (drop a s)) ≡ true
    go (last e f) = ap utf8 (taken t [] (e ∙ sym (append-nil t)) (ap length (sym f) ∙ length-drop d s)) ∙ h
    go (before b m e) =
        ap utf8 (taken (t ++ (b ∷ [])) (drop d s) (e ∙ sym (append_assoc t (b ∷ []) (drop d s))) (length-drop d s))
        ∙ utf8_append t (b ∷ []) h (utf8-ascii (b ∷ []) (m, tt))
    go (behind x b m f e) = ap utf8 (taken (x ++ (b ∷ [])) (drop d s) (e ∙ sym (append_assoc x (b ∷ []) (drop d s))) (length-drop d s)) ∙ ap utf8 (sym f) ∙ h

-- where nothing of the text is left after bytes that are UTF-8, all of it from their place on is
pub bounded-whole : (s : List ℕ) (a : ℕ) (t : List ℕ) (d : ℕ) → Bounded s a t d → utf8 t ≡ true → drop d s ≡ [] → utf8 (drop a s) ≡ true
bounded-whole s a t d (last e f) h n = ap utf8 e ∙ h
bounded-whole s a t d (before b l e) h n =
    ap utf8 (e ∙ ap (λ (y : List ℕ). t ++ b ∷ y) n) ∙ utf8_append t (b ∷ []) h (utf8-ascii (b ∷ []) (l, tt))
bounded-whole s a t d (behind x b l f e) h n = ap utf8 (e ∙ ap (λ (y : List ℕ). x ++ b ∷ y) n ∙ sym f) ∙ h
