-- Laws of the part at the front of a text: runs of bytes, and how long the part is by its first byte. (01: From PBN, "Annotation parts ..")
-- Assumes nothing.
use Prim.Native.Nat.{ℕ, suc, ◌+◌, ◌-◌, ◌≤◌, min}
use native.Mathlib.Omega.{arith}
use mathlib.Core.Path.{◌≡◌, refl, ap, sym, ◌∙◌}
use mathlib.Core.Bool.{Bool, true, false, not, cond}
use mathlib.Core.List.{List, [], ◌∷◌}
use lib.ListN.{length, get_or, take, drop, length-take}
use lib.Seq.{take_all}
use lib.Dec.{eqb}
use borrow.Author.Tests.{ne_eqb}
use Rattle.std.specs.List.{take_while}
use Rattle.std.proofs.lemmas.List.Sums.{take_while-cons}
use Rattle.lin_spec.specs.Base.{pick}
use Rattle.lin_spec.specs.Cursor.{find_from}
use Rattle.lin_spec.specs.Utf8.{first}
use Rattle.lin_spec.specs.Board.{is_digit}
use Rattle.lin_spec.specs.Annotation.{run, is_mark, char_bytes, part_length}

-- a run is what `take_while` takes
run-taken : (f : ℕ → Bool) (s : List ℕ) → length (take_while f s) ≡ run f s
unfolding run
run-taken f [] = refl
run-taken f (b ∷ s) = rw take_while-cons (go (f b) (run-taken f s))
  where
    go : (t : Bool) → length (take_while f s) ≡ run f s → length (cond t (b ∷ take_while f s) []) ≡ pick t (suc (run f s)) 0
    go true ih = ap suc ih
    go false ih = refl

run_within : (f : ℕ → Bool) (s : List ℕ) → run f s ≤ length s
run_within f s = let e = run-taken f s in omega (arith, length-take {A = ℕ})

-- the bytes of a run pass the test
pub run_take : (f : ℕ → Bool) (s : List ℕ) → run f (take (run f s) s) ≡ length (take (run f s) s)
unfolding run
run_take f [] = refl
run_take f (b ∷ s) = go (f b) refl (run_take f s)
  where
    go : (t : Bool) → f b ≡ t → run f (take (run f s) s) ≡ length (take (run f s) s)
        → run f (take (pick t (suc (run f s)) 0) (b ∷ s)) ≡ length (take (pick t (suc (run f s)) 0) (b ∷ s))
    go true e ih = rw e (ap suc ih)
    go false e ih = refl

-- the first byte c is where the run of other bytes ends
find-run : (c : ℕ) (s : List ℕ) → find_from c s 0 ≡ run (λ b. not (eqb b c)) s
unfolding find_from run
find-run c [] = refl
find-run c (b ∷ s) = go (eqb b c) (find-run c s)
  where
    go : (t : Bool) → find_from c s 0 ≡ run (λ b. not (eqb b c)) s → pick t 0 (suc (find_from c s 0)) ≡ pick (not t) (suc (run (λ b. not (eqb b c)) s)) 0
    go true ih = refl
    go false ih = ap suc ih

-- How long the part at the front is, by the first byte

pub part_equals : (s : List ℕ) → (length s ≡ 0 → ⊥) → get_or s 0 0 ≡ 0x3D → (r : ℕ) → r ≡ min (find_from 0x3D s 1 + 1) (length s) → r ≡ min (part_length s) (length s)
unfolding part_length find_from
part_equals [] h e r k = absurd (h refl)
part_equals (b ∷ s) h e r k = rw e (let z = find-run 0x3D s in omega arith)

pub part_dollar : (s : List ℕ) → (length s ≡ 0 → ⊥) → get_or s 0 0 ≡ 0x24 → (d : ℕ) → d ≡ length (take_while is_digit (take (length s - 1) (drop 1 s)))
    → 1 + d ≡ min (part_length s) (length s)
unfolding part_length
part_dollar [] h e d k = absurd (h refl)
part_dollar (b ∷ s) h e d k =
    let q : take (suc (length s) - 1) s ≡ s = take_all (suc (length s) - 1) s (omega arith) in
    let m = ap (λ (t : List ℕ). length (take_while is_digit t)) q in
    let n = run-taken is_digit s in
    let l = run_within is_digit s in
    rw e (omega arith)

-- of a first byte that is neither `=` nor `$`: a run of marks, or a character
abbrev Other : List ℕ → Type 0
Other s = (length s ≡ 0 → ⊥) × (get_or s 0 0 ≡ 0x3D → ⊥) × (get_or s 0 0 ≡ 0x24 → ⊥)

pub part-mark : (s : List ℕ) → Other s → (t : Bool) → t ≡ is_mark (get_or s 0 0) → t ≡ true → (d : ℕ) → d ≡ length (take_while is_mark s) → d ≡ min (part_length s) (length s)
unfolding part_length run
part-mark [] o t e k d l = absurd (o.0 refl)
part-mark (b ∷ s) o t e k d l =
    let q : is_mark b ≡ true = sym e ∙ k in
    let m = run_within is_mark s in
    simp (ne_eqb b 0x3D o.1, ne_eqb b 0x24 o.2, q) (let z : d ≡ suc (run is_mark s) = l ∙ run-taken is_mark (b ∷ s) ∙ simp q in omega arith)

pub part_char : (s : List ℕ) → Other s → (t : Bool) → t ≡ is_mark (get_or s 0 0) → t ≡ false → (n : ℕ) → n ≡ char_bytes (first (get_or s 0 0)) → min n (length s) ≡ min (part_length s) (length s)
unfolding part_length
part_char [] o t e k n l = absurd (o.0 refl)
part_char (b ∷ s) o t e k n l = let q : is_mark b ≡ false = sym e ∙ k in simp (ne_eqb b 0x3D o.1, ne_eqb b 0x24 o.2, q, ← l)
