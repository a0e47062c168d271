-- Laws of `overlay`, of a run of puts: what is left to write, and of lengths. (01: Writer)
-- Assumes nothing.
use mathlib.Core.Path.{◌≡◌, refl, sym, ap, ◌∙◌}
use Prim.Native.Nat.{ℕ, zero, suc, ◌+◌, ◌≤◌, ◌<◌}
use native.Mathlib.Nat.{add-zero, zero-add, suc-add, add-suc}
use native.Mathlib.Numerals.{add-one}
use native.Mathlib.Omega.{arith}
use mathlib.Core.List.{List, [], ◌∷◌, ◌++◌, append_assoc, append-nil}
use lib.ListN.{length, drop, get_or, set, length-append, length-take, length-drop, take-append-drop, drop_of_length-le}
use lib.Seq.{take-append_seam, drop-append-add, drop-drop, drop-nil, take-nil, take_all, set_split, drop-cons}
use Rattle.lin_spec.specs.Refusals.{sat}
use Rattle.lin_spec.specs.Output.{overlay}
use Rattle.output.specs.Put.{Room, Put}

-- Overlays

pub overlay-nil : {A : Type 0} (o : List A) (at : ℕ) → overlay o at [] ≡ o
unfolding overlay
overlay-nil o at = simp (add-zero, append-nil, take-append-drop)

-- a list with nothing in it: the text alone
of_nil : {A : Type 0} (at : ℕ) (s : List A) → overlay [] at s ≡ s
unfolding overlay
of_nil at s = simp (take-nil, drop-nil, append-nil)

later : {A : Type 0} (x : A) (o : List A) (at : ℕ) (s : List A) → overlay (x ∷ o) (suc at) s ≡ x ∷ overlay o at s
unfolding overlay
later x o at s = simp suc-add

at-end : {A : Type 0} (at : ℕ) (s t : List A) → overlay s (at + length s) t ≡ s ++ t
unfolding overlay
at-end at s t =
    let h : length s ≤ at + length s = omega arith in
    let k : length s ≤ at + length s + length t = omega arith in
    simp (take_all (at + length s) s h, drop_of_length-le s k, append-nil)

-- two texts one after the other are one text: at any place, with room or without
pub overlay-overlay : {A : Type 0} (o : List A) (at : ℕ) (s t : List A) → overlay (overlay o at s) (at + length s) t ≡ overlay o at (s ++ t)
unfolding overlay
overlay-overlay {A} o zero s t =
    let d : List A = drop (length s) o in
    simp (zero-add, take-append_seam s d, drop-append-add s d (length t), drop-drop (length t) (length s) o, length-append, append_assoc)
overlay-overlay [] (suc at) s t = simp (of_nil, at-end)
overlay-overlay {A} (x ∷ o) (suc at) s t = simp (later, suc-add) (ap (λ (l : List A). x ∷ l) (overlay-overlay o at s t))

pub length-overlay : {A : Type 0} (o : List A) (at : ℕ) (s : List A) → at + length s ≤ length o → length (overlay o at s) ≡ length o
unfolding overlay
length-overlay o at s h = simp (length-append, length-take, length-drop) (omega arith)

-- one store is a text of one
pub set-overlay : {A : Type 0} (o : List A) (at : ℕ) (x : A) → at < length o → set o at x ≡ overlay o at (x ∷ [])
unfolding overlay
set-overlay o at x h = set_split o at x h ∙ simp (add-one, append_assoc)

-- A run of puts

-- into d, from index pos on, the text rest is still to be written, and then d₀ has the text whole from index at on
pub record Left {A : Type 0} (d : List A) (pos : ℕ) (rest d₀ : List A) (at : ℕ) (whole : List A) : Type 0 where
  pub same : overlay d pos rest ≡ overlay d₀ at whole
  pub ends : pos + length rest ≡ at + length whole
  pub room : pos + length rest ≤ length d
  pub long : length d ≡ length d₀

pub start : {A : Type 0} {d : List A} {at : ℕ} {s : List A} → Room d at s → Left d at s d at s
start r = record { same = refl; ends = refl; room = r.room; long = refl }

pub roomy : {A : Type 0} {d : List A} {pos : ℕ} (s t : List A) {d₀ : List A} {at : ℕ} {whole : List A} → Left d pos (s ++ t) d₀ at whole → Room d pos s
roomy s t l = record { room = omega (arith, l.room, length-append s t) }

pub step : {A : Type 0} {d : List A} {pos : ℕ} {s t d₀ : List A} {at : ℕ} {whole d' : List A} {pos' : ℕ} → Left d pos (s ++ t) d₀ at whole → Put d pos s d' pos' → Left d' pos' t d₀ at whole
step {d = d} {pos = pos} {s = s} {t = t} {d' = d'} l p =
    let h : pos + length s ≤ length d = (roomy s t l).room in
    let n : length d' ≡ length d = ap length p.text ∙ length-overlay d pos s h in
    record {
      same = rw (p.text, p.next) (overlay-overlay d pos s t ∙ l.same);
      ends = omega (arith, l.ends, p.next, length-append s t);
      room = omega (arith, l.room, p.next, n, length-append s t);
      long = n ∙ l.long;
    }

pub finish : {A : Type 0} {d : List A} {pos : ℕ} {d₀ : List A} {at : ℕ} {whole : List A} → Left d pos [] d₀ at whole → Put d₀ at whole d pos
finish {d = d} {pos = pos} l = record { next = omega (arith, l.ends); text = sym (overlay-nil d pos) ∙ l.same }

-- a store of one element is a step
pub store : {A : Type 0} {d : List A} {pos : ℕ} {x : A} {t d₀ : List A} {at : ℕ} {whole : List A} → Left d pos (x ∷ t) d₀ at whole → Left (set d pos x) (pos + 1) t d₀ at whole
store {d = d} {pos = pos} {x = x} {t = t} l =
    let h : pos < length d = omega (arith, (roomy (x ∷ []) t l).room) in
    step {s = x ∷ []} l (record { next = refl; text = set-overlay d pos x h })

-- a turn of a loop that writes each byte of s, at the byte j
pub turn : (s : List ℕ) (j : ℕ) {d : List ℕ} {pos : ℕ} {d₀ : List ℕ} {at : ℕ} {whole : List ℕ} → j < length s
    → Left d pos (drop j s) d₀ at whole → Left (set d pos (get_or s j 0)) (pos + 1) (drop (j + 1) s) d₀ at whole
turn s j h l = rw (add-one j) (store (rw (drop-cons s j 0 h) at l))

-- in such a turn the byte is within the list
pub inside : {A : Type 0} (s : List A) (j : ℕ) {d : List A} {pos : ℕ} {d₀ : List A} {at : ℕ} {whole : List A} → j < length s
    → Left d pos (drop j s) d₀ at whole → pos < length d
inside s j h l = omega (arith, l.room, length-drop j s)

-- a turn of a loop that writes each element of s, at the element j, from the index b on
pub next_put : {A : Type 0} (s : List A) (j b : ℕ) (x : A) {d d₀ : List A} {at : ℕ} {whole : List A} → j < length s → x ≡ get_or s j x
    → Left d (b + j) (drop j s) d₀ at whole → Left (set d (b + j) x) (b + (j + 1)) (drop (j + 1) s) d₀ at whole
next_put s j b x h e l =
    let z = rw (drop-cons s j x h, ← e) at l in
    rw (add-one j) (rw (add-suc b j) (rw (← add-one (b + j)) (store z)))

-- past the last byte nothing is left
pub end_of : {A : Type 0} (s : List A) (j : ℕ) → length s ≤ j → drop j s ≡ []
end_of s j h = drop_of_length-le s h

-- Lengths

-- the sum of two lengths, each as it is given
pub sat-sum : (a b : ℕ) {n x r : ℕ} → n ≡ sat a → x ≡ sat b → r ≡ sat (n + x) → r ≡ sat (a + b)
sat-sum a b e f g = omega arith
