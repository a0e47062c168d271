-- Laws of the commands' numbers: which word it is, and that the number says which command it is. (01: Board)
-- Assumes nothing.
use Prim.Native.Nat.{ℕ, zero, suc, ◌+◌, ◌-◌, ◌<◌, ◌≤◌}
use native.Mathlib.Numerals.{add-one}
use native.Mathlib.Nat.{not-suc-le-zero, le_of_suc-le-suc}
use native.Mathlib.Omega.{arith}
use mathlib.Core.Path.{◌≡◌, refl, ap, sym, ◌∙◌}
use mathlib.Core.Bool.{Bool, true, false, ◌&&◌, and-true, and-false, false≢true}
use mathlib.Core.List.{List, [], ◌∷◌, map}
use mathlib.Core.Logic.{◌⊎◌, inl, inr, ⊎_elim}
use lib.ListN.{length, get_or, drop, length-drop}
use lib.Seq.{drop-cons}
use lib.Dec.{eqb, leb}
use borrow.Author.Tests.{ne_eqb, eqb-true, eqb-false, leb-true}
use Rattle.lin_spec.specs.Base.{pick, eq_all}
use Rattle.lin_spec.specs.Records.{part}
use Rattle.lin_spec.specs.White.{lower, white_at, skip_white, trim_start, trim_end, blank, trim, same_word, is_command}
use Rattle.lin_spec.proofs.Base.{picked, split, and_left, and_right, all_below, below, eq_list_lem}
use Rattle.lin_spec.proofs.White.{Visible, skip_at, trim_most, trim_visible, white_most, trim_lf}
use Rattle.document_commands.specs.Commands.{words, first_word, first_small, code_of, command_of, SameFrom, Unmarked}

-- the word at the front, or another
pub word-here : (n : ℕ) (w : List ℕ) (ws : List (List ℕ)) (s : List ℕ) (t : Bool) → t ≡ same_word s w → t ≡ true → n ≡ first_word n (w ∷ ws) s
unfolding first_word
word-here n w ws s t e h = let z : same_word s w ≡ true = sym e ∙ h in simp z

pub word_next : (n : ℕ) (w : List ℕ) (ws : List (List ℕ)) (s : List ℕ) (t : Bool) {x : ℕ} → t ≡ same_word s w → t ≡ false → x ≡ first_word (suc n) ws s
    → x ≡ first_word n (w ∷ ws) s
unfolding first_word
word_next n w ws s t e h k = let z : same_word s w ≡ false = sym e ∙ h in simp z k

pub word_none : (n : ℕ) (s : List ℕ) → n ≡ first_word n [] s
unfolding first_word
word_none n s = refl

-- The number says which command it is

first_least : (ws : List (List ℕ)) (n : ℕ) (s : List ℕ) → n ≤ first_word n ws s
unfolding first_word
first_least [] n s = omega arith
first_least (w ∷ ws) n s =
    picked (λ (x : ℕ). n ≤ x) (same_word s w) (λ _. omega arith) (λ _. let l = first_least ws (suc n) s in omega arith)

-- a number below the count of the words is that of a word that s is
first-is : (ws : List (List ℕ)) (n i : ℕ) (s : List ℕ) → i < length ws → first_word n ws s ≡ n + i → same_word s (get_or ws i []) ≡ true
unfolding first_word
first-is [] n i s h e = absurd (not-suc-le-zero h)
first-is (w ∷ ws) n i s h e = go (same_word s w) refl i h e (λ j. first-is ws (suc n) j s)
  where
    go : (t : Bool) → same_word s w ≡ t → (i : ℕ) → i < suc (length ws) → first_word n (w ∷ ws) s ≡ n + i
        → ((j : ℕ) → j < length ws → first_word (suc n) ws s ≡ suc n + j → same_word s (get_or ws j []) ≡ true)
        → same_word s (get_or (w ∷ ws) i []) ≡ true
    go true f zero h e ih = f
    go true f (suc i) h e ih = let z : n ≡ n + suc i = sym (let y : first_word n (w ∷ ws) s ≡ n = simp f in y) ∙ e in absurd (omega arith)
    go false f zero h e ih =
        let y : first_word n (w ∷ ws) s ≡ first_word (suc n) ws s = simp f in
        let l = first_least ws (suc n) s in
        absurd (omega arith)
    go false f (suc i) h e ih = ih i (le_of_suc-le-suc h) (let y : first_word n (w ∷ ws) s ≡ first_word (suc n) ws s = simp f in sym y ∙ e ∙ (let z : n + suc i ≡ suc n + i = omega arith in z))

first_eq : (n : ℕ) (ws : List (List ℕ)) (s : List ℕ) → first_word n ws s ≡ first_small n ws (map lower s)
unfolding first_word first_small same_word
first_eq n [] s = refl
first_eq n (w ∷ ws) s = simp (first_eq (suc n) ws s)

-- each word has its own number
own : (i : ℕ) → i < 10 → eqb (first_small 0 words (get_or words i [])) i ≡ true
unfolding first_small eq_all all_below
own i h = below (λ (k : ℕ). eqb (first_small 0 words (get_or words k [])) k) 10 refl i h

pub code_is : (c : List ℕ) (i : ℕ) → i < 10 → is_command c (get_or words i []) ≡ eqb (command_of c) i
unfolding command_of is_command
code_is c i h = go (same_word (trim c) (get_or words i [])) refl
  where
    go : (t : Bool) → same_word (trim c) (get_or words i []) ≡ t → same_word (trim c) (get_or words i []) ≡ eqb (first_word 0 words (trim c)) i
    go true e =
        let x : map lower (trim c) ≡ get_or words i [] = unfold same_word in eq_list_lem (map lower (trim c)) (get_or words i []) e in
        e ∙ sym (ap (λ (n : ℕ). eqb n i) (first_eq 0 words (trim c) ∙ ap (first_small 0 words) x) ∙ own i h)
    go false e = e ∙ sym (ne_eqb (first_word 0 words (trim c)) i (λ k. false≢true (sym e ∙ first-is words 0 i (trim c) h (k ∙ (let z : i ≡ 0 + i = omega arith in z)))))

-- Trimming leaves a text as it is, or makes it shorter

end_kept : (s : List ℕ) → (trim_end s ≡ s) ⊎ (length (trim_end s) < length s)
unfolding trim_end
end_kept [] = inl refl
end_kept (b ∷ s) =
    picked (λ (x : List ℕ). (x ≡ b ∷ s) ⊎ (length x < suc (length s))) (blank (b ∷ s)) (λ _. inr (omega arith))
    (λ _. ⊎_elim (λ e. inl (ap (λ (x : List ℕ). b ∷ x) e)) (λ h. inr (omega arith)) (end_kept s))

kept : (s : List ℕ) → (trim s ≡ s) ⊎ (length (trim s) < length s)
unfolding trim trim_start
kept s = go (eqb (white_at s) 0) refl
  where
    go : (t : Bool) → eqb (white_at s) 0 ≡ t → (trim_end (skip_white 0 s) ≡ s) ⊎ (length (trim_end (skip_white 0 s)) < length s)
    go true e = let x : skip_white 0 s ≡ s = skip_at s ∙ simp e in rw x (end_kept s)
    go false e =
        let x : skip_white 0 s ≡ skip_white 0 (drop (white_at s) s) = skip_at s ∙ simp e in
        let n : white_at s ≡ 0 → ⊥ = eqb-false (white_at s) 0 e in
        let l = length-drop (white_at s) s in
        let m = trim_most (drop (white_at s) s) in
        let w = white_most s in
        inr (rw x (omega arith))

-- A command of two bytes

-- a letter of a word is visible in either case
visible : (b : ℕ) → 97 ≤ lower b → lower b ≤ 122 → Visible b
unfolding lower
visible b = picked (λ (x : ℕ). 97 ≤ x → x ≤ 122 → Visible b) (leb 0x41 b && leb b 0x5A)
    (λ e. λ _ _. (omega (arith, leb-true 0x41 b (and_left (leb 0x41 b) (leb b 0x5A) e)), omega (arith, leb-true b 0x5A (and_right (leb 0x41 b) (leb b 0x5A) e)))) (λ _. λ h k. (omega arith, omega arith))

letters : (i : ℕ) → i < 10 → (x y : ℕ) → x ∷ y ∷ [] ≡ get_or words i [] → (97 ≤ x) × (x ≤ 122) × (97 ≤ y) × (y ≤ 122)
letters i h x y e =
    let u : x ≡ get_or (get_or words i []) 0 0 = ap (λ (l : List ℕ). get_or l 0 0) e in
    let v : y ≡ get_or (get_or words i []) 1 0 = ap (λ (l : List ℕ). get_or l 1 0) e in (
      rw u (leb-true 97 _ (below (λ (j : ℕ). leb 97 (get_or (get_or words j []) 0 0)) 10 (unfold all_below in refl) i h)),
      rw u (leb-true _ 122 (below (λ (j : ℕ). leb (get_or (get_or words j []) 0 0) 122) 10 (unfold all_below in refl) i h)),
      rw v (leb-true 97 _ (below (λ (j : ℕ). leb 97 (get_or (get_or words j []) 1 0)) 10 (unfold all_below in refl) i h)),
      rw v (leb-true _ 122 (below (λ (j : ℕ). leb (get_or (get_or words j []) 1 0) 122) 10 (unfold all_below in refl) i h)),
    )

-- what is shorter is no word
short_none : (t : List ℕ) → length t < 2 → first_word 0 words t ≡ 10
unfolding first_word same_word eq_all
short_none [] h = refl
short_none (b ∷ []) h = simp and-false
short_none (b ∷ d ∷ t) h = absurd (let z : ⊥ = omega arith in z)

first_most : (ws : List (List ℕ)) (n : ℕ) (s : List ℕ) → first_word n ws s ≤ n + length ws
unfolding first_word
first_most [] n s = omega arith
first_most (w ∷ ws) n s = picked (λ (x : ℕ). x ≤ n + suc (length ws)) (same_word s w) (λ _. omega arith) (λ _. let l = first_most ws (suc n) s in omega arith)

pub pair_code : (a b x y : ℕ) → x ≡ lower a → y ≡ lower b → code_of x y ≡ command_of (a ∷ b ∷ [])
unfolding command_of same_word
pair_code a b x y ex ey = rw (ex, ey) (sym (first_eq 0 words (a ∷ b ∷ [])) ∙ ⊎_elim same shorter (kept (a ∷ b ∷ [])))
  where
    same : trim (a ∷ b ∷ []) ≡ a ∷ b ∷ [] → first_word 0 words (a ∷ b ∷ []) ≡ first_word 0 words (trim (a ∷ b ∷ []))
    same e = rw e

    seen : first_word 0 words (a ∷ b ∷ []) < 10 → trim (a ∷ b ∷ []) ≡ a ∷ b ∷ []
    seen h =
        let n = first_word 0 words (a ∷ b ∷ []) in
        let w : same_word (a ∷ b ∷ []) (get_or words n []) ≡ true = first-is words 0 n (a ∷ b ∷ []) h (let z : n ≡ 0 + n = omega arith in z) in
        let l = letters n h (lower a) (lower b) (eq_list_lem (lower a ∷ lower b ∷ []) (get_or words n []) w) in
        trim_visible (a ∷ b ∷ []) (visible a l.0 l.1, (visible b l.2 l.3, tt))

    shorter : length (trim (a ∷ b ∷ [])) < 2 → first_word 0 words (a ∷ b ∷ []) ≡ first_word 0 words (trim (a ∷ b ∷ []))
    shorter h =
        split (first_word 0 words (a ∷ b ∷ [])) 10 (λ k. same (seen k))
        (λ k. let m = first_most words 0 (a ∷ b ∷ []) in let z : first_word 0 words (a ∷ b ∷ []) ≡ 10 = omega arith in z ∙ sym (short_none (trim (a ∷ b ∷ [])) h))

pub code-form : (x y : ℕ) → code_of x y ≡ pick (eqb x 112 && eqb y 99) 0 (pick (eqb x 109 && eqb y 98) 1 (pick (eqb x 97 && eqb y 110) 2
    (pick (eqb x 109 && eqb y 100) 3 (pick (eqb x 112 && eqb y 110) 4 (pick (eqb x 113 && eqb y 120) 5 (pick (eqb x 109 && eqb y 110) 6
    (pick (eqb x 115 && eqb y 118) 7 (pick (eqb x 97 && eqb y 104) 8 (pick (eqb x 109 && eqb y 99) 9 10)))))))))
unfolding first_small eq_all
code-form x y = simp and-true

-- by the letters: a word, or none
pub code-word : (x y i : ℕ) → i < 10 → x ≡ get_or (get_or words i []) 0 0 → y ≡ get_or (get_or words i []) 1 0 → i ≡ code_of x y
unfolding first_small eq_all all_below
code-word x y i h e f =
    rw (e, f) (sym (eqb-true _ i (below (λ (j : ℕ). eqb (code_of (get_or (get_or words j []) 0 0) (get_or (get_or words j []) 1 0)) j) 10 refl i h)))

pub none-p : (x y : ℕ) → x ≡ 112 → (y ≡ 99 → ⊥) → (y ≡ 110 → ⊥) → 10 ≡ code_of x y
none-p x y e f g = rw (code-form x y, e) (simp (ne_eqb y 99 f, ne_eqb y 110 g))

pub none_m : (x y : ℕ) → x ≡ 109 → (y ≡ 98 → ⊥) → (y ≡ 100 → ⊥) → (y ≡ 110 → ⊥) → (y ≡ 99 → ⊥) → 10 ≡ code_of x y
none_m x y e f g h k = rw (code-form x y, e) (simp (ne_eqb y 98 f, ne_eqb y 100 g, ne_eqb y 110 h, ne_eqb y 99 k))

-- what is neither p nor m at the front, and none of the other words
pub none_other : (x y : ℕ) → (x ≡ 112 → ⊥) → (x ≡ 109 → ⊥) → (eqb x 97 && eqb y 110) ≡ false → (eqb x 113 && eqb y 120) ≡ false → (eqb x 115 && eqb y 118) ≡ false
    → (eqb x 97 && eqb y 104) ≡ false → 10 ≡ code_of x y
none_other x y p m a b c d = rw (code-form x y) (simp (ne_eqb x 112 p, ne_eqb x 109 m, a, b, c, d))

pub code-pair : (x y i : ℕ) → i < 10 → (eqb x (get_or (get_or words i []) 0 0) && eqb y (get_or (get_or words i []) 1 0)) ≡ true → i ≡ code_of x y
code-pair x y i h e = code-word x y i h (eqb-true x _ (and_left (eqb x (get_or (get_or words i []) 0 0)) (eqb y (get_or (get_or words i []) 1 0)) e)) (eqb-true y _ (and_right (eqb x (get_or (get_or words i []) 0 0)) (eqb y (get_or (get_or words i []) 1 0)) e))

-- Where a command stands

pub same_here : (s : List ℕ) (at p : ℕ) → at ≤ p → SameFrom s at p at
same_here s at p h = record { from = omega arith; to = h; same = refl }

pub same_lf : (s : List ℕ) (at p : ℕ) → at < p → p ≤ length s → get_or s at 0 ≡ 0xA → SameFrom s at p (at + 1)
unfolding command_of part
same_lf s at p h k e =
    let n : p - at ≡ suc (p - (at + 1)) = omega arith in
    let d : drop at s ≡ 0xA ∷ drop (at + 1) s = rw (add-one at, ← e) (drop-cons s at 0 (omega arith)) in
    record {
      from = omega arith;
      to = omega arith;
      same = rw (n, d) (sym (ap (first_word 0 words) (trim_lf (part s (at + 1) (p - (at + 1))))));
    }

pub two_bytes : (s : List ℕ) (at p : ℕ) → p ≤ length s → p - at ≡ 2 → part s at (p - at) ≡ get_or s at 0 ∷ get_or s (at + 1) 0 ∷ []
unfolding part
two_bytes s at p h e =
    let d = drop-cons s at 0 (omega arith) in
    let f = drop-cons s (suc at) 0 (omega arith) in
    rw (e, add-one at, d, f)

-- By the second letter alone

unmarked-other : (x y : ℕ) → (y ≡ 100 → ⊥) → (y ≡ 110 → ⊥) → (y ≡ 120 → ⊥) → Unmarked (code_of x y)
unmarked-other x y d n v =
    let f = ne_eqb y 100 d in
    let g = ne_eqb y 110 n in
    let h = ne_eqb y 120 v in
    let e : code_of x y ≡ pick (eqb x 112 && eqb y 99) 0 (pick (eqb x 109 && eqb y 98) 1 (pick (eqb x 115 && eqb y 118) 7 (pick (eqb x 97 && eqb y 104) 8 (pick (eqb x 109 && eqb y 99) 9 10)))) = code-form x y ∙ simp (f, g, h, and-false) in
    rw e
    (picked Unmarked (eqb x 112 && eqb y 99) (λ _. record { md = refl; pn = refl; qx = refl; mn = refl })
    (λ _. picked Unmarked (eqb x 109 && eqb y 98) (λ _. record { md = refl; pn = refl; qx = refl; mn = refl })
    (λ _. picked Unmarked (eqb x 115 && eqb y 118) (λ _. record { md = refl; pn = refl; qx = refl; mn = refl })
    (λ _. picked Unmarked (eqb x 97 && eqb y 104) (λ _. record { md = refl; pn = refl; qx = refl; mn = refl })
    (λ _. picked Unmarked (eqb x 109 && eqb y 99) (λ _. record { md = refl; pn = refl; qx = refl; mn = refl }) (λ _. record { md = refl; pn = refl; qx = refl; mn = refl }))))))

pub unmarked-pair : (s : List ℕ) (a : ℕ) → a + 2 ≤ length s → (lower (get_or s (a + 1) 0) ≡ 100 → ⊥) → (lower (get_or s (a + 1) 0) ≡ 110 → ⊥) → (lower (get_or s (a + 1) 0) ≡ 120 → ⊥)
    → Unmarked (command_of (part s a 2))
unmarked-pair s a h d n v =
    let c : a + 2 - a ≡ 2 = omega arith in
    let e : part s a 2 ≡ get_or s a 0 ∷ get_or s (a + 1) 0 ∷ [] = ap (part s a) (sym c) ∙ two_bytes s a (a + 2) h c in
    let k : code_of (lower (get_or s a 0)) (lower (get_or s (a + 1) 0)) ≡ command_of (part s a 2) = pair_code (get_or s a 0) (get_or s (a + 1) 0) _ _ refl refl ∙ sym (ap command_of e) in
    rw (← k) (unmarked-other (lower (get_or s a 0)) (lower (get_or s (a + 1) 0)) d n v)
