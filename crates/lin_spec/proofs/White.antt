-- Trimming: white space and U+FEFF are white (`white-is`). On well-formed text exactly the white characters go, whole, from both ends (`trim-chars`);
-- without U+FEFF these are white space alone (`trim-without-mark`). On any bytes, what is nothing but white at the end goes (`end-blank`), and a text of
-- visible bytes stays (`trim-visible`). No law but these, and those of visible bytes and of LF, looks at the list: the others hold of every list of
-- characters. (01: Records; 02: N2)
-- Assumes nothing.
use Prim.Native.Nat.{ℕ, zero, suc, ◌+◌, ◌-◌, ◌*◌, ◌/◌, ◌≤◌, ◌<◌}
use native.Mathlib.Nat.{not-suc-le-zero, le_of_suc-le-suc}
use native.Mathlib.Omega.{arith}
use mathlib.Core.Path.{◌≡◌, refl, ap, sym, ◌∙◌}
use mathlib.Core.Bool.{Bool, true, false, ◌&&◌, ◌||◌, false≢true, or-false}
use mathlib.Core.List.{List, [], ◌∷◌, ◌++◌, map, append-nil}
use lib.ListN.{length, get_or, drop}
use lib.Seq.{drop-append_seam}
use lib.Dec.{eqb, leb, ltb}
use borrow.Author.Tests.{ne_eqb, eqb-true, eqb-false, ltb-true, ltb-false, lt-ltb, le-ltb, le-leb}
use Rattle.lin_spec.specs.Base.{pick, any, all, null, All, starts, concat}
use Rattle.lin_spec.specs.Utf8.{encode, encode_all}
use Rattle.lin_spec.specs.White.{whites, white_space, front, white_at, skip_white, trim_start, blank, trim_end, trim}
use Rattle.lin_spec.proofs.Base.{picked, or_none, any_append, starts_self, starts-split, starts_most}

-- No character's bytes begin with another's

-- the number of the character that a text begins with
read : List ℕ → ℕ
read s =
    pick (ltb (get_or s 0 0) 0x80) (get_or s 0 0)
    (pick (ltb (get_or s 0 0) 0xE0) ((get_or s 0 0 - 0xC0) * 64 + (get_or s 1 0 - 0x80))
    (pick (ltb (get_or s 0 0) 0xF0) ((get_or s 0 0 - 0xE0) * 4096 + (get_or s 1 0 - 0x80) * 64 + (get_or s 2 0 - 0x80))
    ((get_or s 0 0 - 0xF0) * 262144 + (get_or s 1 0 - 0x80) * 4096 + (get_or s 2 0 - 0x80) * 64 + (get_or s 3 0 - 0x80))))

read-encode : (c : ℕ) (s : List ℕ) → read (encode c ++ s) ≡ c
unfolding read encode
read-encode c s =
    picked Back (ltb c 0x80) (λ h. simp h) λ h.
    let l₁ = ltb-false c 0x80 h in
    picked Back (ltb c 0x800)
    (λ h. let l = ltb-true c 0x800 h in simp (le-ltb (0xC0 + c / 64) 0x80 (omega arith), lt-ltb (0xC0 + c / 64) 0xE0 (omega arith)) (omega arith)) λ h.
    let l₂ = ltb-false c 0x800 h in
    picked Back (ltb c 0x10000)
    (λ h. let l = ltb-true c 0x10000 h in
    simp (le-ltb (0xE0 + c / 4096) 0x80 (omega arith), le-ltb (0xE0 + c / 4096) 0xE0 (omega arith), lt-ltb (0xE0 + c / 4096) 0xF0 (omega arith)) (omega arith)) λ h.
    let q₁ : c / 4096 ≡ c / 64 / 64 = omega arith in
    let q₂ : c / 262144 ≡ c / 4096 / 64 = omega arith in
    simp (le-ltb (0xF0 + c / 262144) 0x80 (omega arith), le-ltb (0xF0 + c / 262144) 0xE0 (omega arith), le-ltb (0xF0 + c / 262144) 0xF0 (omega arith)) (omega arith)
  where
    Back : List ℕ → Type 0
    Back x = read (x ++ s) ≡ c

pub starts-encode : (c w : ℕ) (s : List ℕ) → starts (encode w) (encode c ++ s) ≡ eqb c w
starts-encode c w s = go (eqb c w) refl (starts (encode w) (encode c ++ s)) refl
  where
    go : (t : Bool) → eqb c w ≡ t → (u : Bool) → starts (encode w) (encode c ++ s) ≡ u → u ≡ t
    go true e true h = refl
    go true e false h = let k : c ≡ w = eqb-true c w e in sym h ∙ (rw k (starts_self (encode w) s))
    go false e true h = absurd (eqb-false c w e (sym (read-encode c s) ∙ ap read (starts-split (encode w) (encode c ++ s) h) ∙ read-encode w _))
    go false e false h = refl

-- The bytes of a character: one below 80 hex; or a first from C0 on and later ones from 80 to BF

abbrev pub Later : ℕ → Type 0
Later b = (0x80 ≤ b) × (b < 0xC0)

abbrev pub Character : List ℕ → Type 0
Character [] = ⊥
Character (b ∷ []) = b < 0x80
Character (b ∷ a ∷ s) = (0xC0 ≤ b) × All Later (a ∷ s)

pub character : (c : ℕ) → Character (encode c)
unfolding encode
character c =
    picked Character (ltb c 0x80) (λ h. ltb-true c 0x80 h) λ _.
    picked Character (ltb c 0x800) (λ _. omega arith) λ _. picked Character (ltb c 0x10000) (λ _. omega arith) λ _. omega arith

pub first_byte : (b : ℕ) (s : List ℕ) → Character (b ∷ s) → Later b → ⊥
first_byte b [] k l = omega arith
first_byte b (a ∷ s) k l = omega arith

pub later-bytes : (b : ℕ) (s : List ℕ) → Character (b ∷ s) → All Later s
later-bytes b [] k = tt
later-bytes b (a ∷ s) k = k.1

-- White characters at the front

-- trim removes the character
unfoldable pub white : ℕ → Bool
white c = any (eqb c) whites

-- "U+FEFF as well as white space"
pub white-is : (c : ℕ) → white c ≡ (any (eqb c) white_space || eqb c 0xFEFF)
unfolding white any
white-is c = any_append (eqb c) white_space (0xFEFF ∷ []) ∙ simp or-false

pub white-encode : (c : ℕ) (s : List ℕ) → white_at (encode c ++ s) ≡ pick (white c) (length (encode c)) 0
unfolding white_at white front any
white-encode c s = go whites
  where
    one : (w : ℕ) (u t : Bool) → eqb c w ≡ t → pick t (length (encode w)) (pick u (length (encode c)) 0) ≡ pick (t || u) (length (encode c)) 0
    one w u true e = ap (λ (n : ℕ). length (encode n)) (sym (eqb-true c w e))
    one w u false e = refl

    go : (ws : List ℕ) → front (map encode ws) (encode c ++ s) ≡ pick (any (eqb c) ws) (length (encode c)) 0
    go [] = refl
    go (w ∷ ws) = rw (starts-encode c w s, go ws) (one w (any (eqb c) ws) (eqb c w) refl)

-- a later byte of a character is not white, nor the first byte of any that is
pub white-later : (b : ℕ) (s : List ℕ) → Later b → white_at (b ∷ s) ≡ 0
unfolding white_at front starts
white-later b s h = go whites
  where
    one : (x : List ℕ) → Character x → starts x (b ∷ s) ≡ false
    one [] k = absurd k
    one (f ∷ x) k = simp (ne_eqb b f (λ e. first_byte f x k (rw e at h)))

    go : (ws : List ℕ) → front (map encode ws) (b ∷ s) ≡ 0
    go [] = refl
    go (w ∷ ws) = rw (one (encode w) (character w)) (go ws)

pub skip_drop : (n : ℕ) (s : List ℕ) → skip_white n s ≡ skip_white 0 (drop n s)
unfolding skip_white
skip_drop zero s = refl
skip_drop (suc n) [] = refl
skip_drop (suc n) (b ∷ s) = skip_drop n s

-- without a white character at its front s stays, with one it goes on after that
pub skip_at : (s : List ℕ) → skip_white 0 s ≡ pick (eqb (white_at s) 0) s (skip_white 0 (drop (white_at s) s))
unfolding skip_white
skip_at [] = go (white_at [])
  where
    go : (n : ℕ) → [] ≡ pick (eqb n 0) [] (skip_white 0 (drop n []))
    go zero = refl
    go (suc n) = rw (ne_eqb (suc n) 0 (λ e. omega arith))
skip_at (b ∷ s) = go (white_at (b ∷ s))
  where
    go : (n : ℕ) → pick (eqb n 0) (b ∷ s) (skip_white (n - 1) s) ≡ pick (eqb n 0) (b ∷ s) (skip_white 0 (drop n (b ∷ s)))
    go zero = refl
    go (suc n) = let e : suc n - 1 ≡ n = omega arith in rw (ne_eqb (suc n) 0 (λ e. omega arith), e) (skip_drop n s)

pub skip_encode : (c : ℕ) (s : List ℕ) → skip_white 0 (encode c ++ s) ≡ pick (white c) (skip_white 0 s) (encode c ++ s)
skip_encode c s = skip_at (encode c ++ s) ∙ rw (white-encode c s) (go (white c) (encode c) (character c))
  where
    go : (t : Bool) (x : List ℕ) → Character x
        → pick (eqb (pick t (length x) 0) 0) (x ++ s) (skip_white 0 (drop (pick t (length x) 0) (x ++ s))) ≡ pick t (skip_white 0 s) (x ++ s)
    go t [] k = absurd k
    go true (b ∷ x) k = simp (ne_eqb (suc (length x)) 0 (λ e. omega arith), drop-append_seam)
    go false (b ∷ x) k = refl

pub blank-encode : (c : ℕ) (s : List ℕ) → blank (encode c ++ s) ≡ (white c && blank s)
unfolding blank trim_start
blank-encode c s = rw (skip_encode c s) (go (white c) (encode c) (character c))
  where
    go : (t : Bool) (x : List ℕ) → Character x → null (pick t (skip_white 0 s) (x ++ s)) ≡ (t && null (skip_white 0 s))
    go t [] k = absurd k
    go true (b ∷ x) k = refl
    go false (b ∷ x) k = refl

-- White characters at the end

end_later : (x s : List ℕ) → All Later x → trim_end (x ++ s) ≡ x ++ trim_end s
unfolding trim_end blank trim_start skip_white
end_later [] s h = refl
end_later (b ∷ x) s h = simp (white-later b (x ++ s) h.0, end_later x s h.1)

pub end-encode : (c : ℕ) (s : List ℕ) → trim_end (encode c ++ s) ≡ pick (white c && blank s) [] (encode c ++ trim_end s)
unfolding trim_end
end-encode c s = rw (← blank-encode c s) (go (encode c) (character c))
  where
    go : (x : List ℕ) → Character x → trim_end (x ++ s) ≡ pick (blank (x ++ s)) [] (x ++ trim_end s)
    go [] k = absurd k
    go (b ∷ x) k = rw (end_later x s (later-bytes b x k))

-- Trimming, over characters

-- the characters cs without those at the front that pass the test
unfoldable pub drop_front : (ℕ → Bool) → List ℕ → List ℕ
drop_front f [] = []
drop_front f (c ∷ cs) = pick (f c) (drop_front f cs) (c ∷ cs)

-- the characters cs without those at the end: one goes where it and all later ones pass
unfoldable pub drop_end : (ℕ → Bool) → List ℕ → List ℕ
drop_end f [] = []
drop_end f (c ∷ cs) = pick (all f (c ∷ cs)) [] (c ∷ drop_end f cs)

-- "trim removes it from both ends"
unfoldable pub trim_chars : (ℕ → Bool) → List ℕ → List ℕ
trim_chars f cs = drop_end f (drop_front f cs)

pub start-chars : (cs : List ℕ) → trim_start (encode_all cs) ≡ encode_all (drop_front white cs)
unfolding trim_start skip_white concat drop_front
start-chars [] = refl
start-chars (c ∷ cs) = skip_encode c (encode_all cs) ∙ rw (start-chars cs) (go (white c))
  where
    go : (t : Bool) → pick t (encode_all (drop_front white cs)) (encode c ++ encode_all cs) ≡ encode_all (pick t (drop_front white cs) (c ∷ cs))
    go true = refl
    go false = refl

pub blank-chars : (cs : List ℕ) → blank (encode_all cs) ≡ all white cs
unfolding concat blank trim_start skip_white all
blank-chars [] = refl
blank-chars (c ∷ cs) = blank-encode c (encode_all cs) ∙ rw (blank-chars cs)

pub end-chars : (cs : List ℕ) → trim_end (encode_all cs) ≡ encode_all (drop_end white cs)
unfolding concat trim_end drop_end all
end-chars [] = refl
end-chars (c ∷ cs) = end-encode c (encode_all cs) ∙ rw (blank-chars cs, end-chars cs) (go (white c && all white cs))
  where
    go : (t : Bool) → pick t [] (encode c ++ encode_all (drop_end white cs)) ≡ encode_all (pick t [] (c ∷ drop_end white cs))
    go true = refl
    go false = refl

-- Trimming takes exactly the white characters, whole, from both ends. Of any numbers cs, so of those of every well-formed text.
pub trim-chars : (cs : List ℕ) → trim (encode_all cs) ≡ encode_all (trim_chars white cs)
unfolding trim trim_chars
trim-chars cs = ap trim_end (start-chars cs) ∙ end-chars (drop_front white cs)

-- Texts without U+FEFF (02: N2)

all_less : (P : ℕ → Type 0) (f : ℕ → Bool) (cs : List ℕ) → All P cs → All P (drop_front f cs)
unfolding drop_front
all_less P f [] h = tt
all_less P f (c ∷ cs) h = picked (All P) (f c) (λ _. all_less P f cs h.1) (λ _. h)

-- tests that agree on each character take the same characters
module _ (f g : ℕ → Bool) where
  same-front : (cs : List ℕ) → All (λ c. f c ≡ g c) cs → drop_front f cs ≡ drop_front g cs
  unfolding drop_front
  same-front [] h = refl
  same-front (c ∷ cs) h = simp (h.0, same-front cs h.1)

  same-all : (cs : List ℕ) → All (λ c. f c ≡ g c) cs → all f cs ≡ all g cs
  unfolding all
  same-all [] h = refl
  same-all (c ∷ cs) h = simp (h.0, same-all cs h.1)

  same_end : (cs : List ℕ) → All (λ c. f c ≡ g c) cs → drop_end f cs ≡ drop_end g cs
  unfolding drop_end
  same_end [] h = refl
  same_end (c ∷ cs) h = simp (same-all (c ∷ cs) h, same_end cs h.1)

no_mark : (cs : List ℕ) → any (λ c. eqb c 0xFEFF) cs ≡ false → All (λ c. white c ≡ any (eqb c) white_space) cs
unfolding any
no_mark [] h = tt
no_mark (c ∷ cs) h =
    let p = or_none (eqb c 0xFEFF) (any (λ w. eqb w 0xFEFF) cs) h in
    (white-is c ∙ simp (p.0, or-false), no_mark cs p.1)

-- A text without U+FEFF loses white space alone, as it does by the Rust.
pub trim-without-mark : (cs : List ℕ) → any (λ c. eqb c 0xFEFF) cs ≡ false
    → trim (encode_all cs) ≡ encode_all (trim_chars (λ c. any (eqb c) white_space) cs)
unfolding trim_chars
trim-without-mark cs h =
    let u = no_mark cs h in
    let e = same_end white (λ c. any (eqb c) white_space) (drop_front white cs) (all_less _ white cs u) in
    trim-chars cs ∙ ap encode_all (e ∙ ap (drop_end (λ c. any (eqb c) white_space)) (same-front white (λ c. any (eqb c) white_space) cs u))

-- Any bytes, well-formed or not

pub white_most : (s : List ℕ) → white_at s ≤ length s
unfolding white_at front
white_most s = go (map encode whites)
  where
    go : (ws : List (List ℕ)) → front ws s ≤ length s
    go [] = omega arith
    go (w ∷ ws) = picked (λ n. n ≤ length s) (starts w s) (λ h. starts_most w s h) (λ _. go ws)

-- f is no later byte, so it is part of no character that begins before it
module _ (f : ℕ) (r : List ℕ) (l : Later f → ⊥) where
  starts-past : (x y : List ℕ) → All Later x → starts x (y ++ f ∷ r) ≡ starts x y
  unfolding starts
  starts-past [] y h = refl
  starts-past (b ∷ x) [] h = simp (ne_eqb f b (λ e. l (rw (← e) at h.0)))
  starts-past (b ∷ x) (a ∷ y) h = rw (starts-past x y h.1)

  pub white-past : (a : ℕ) (y : List ℕ) → white_at (a ∷ (y ++ f ∷ r)) ≡ white_at (a ∷ y)
  unfolding white_at front starts
  white-past a y = go whites
    where
      one : (x : List ℕ) → Character x → starts x (a ∷ (y ++ f ∷ r)) ≡ starts x (a ∷ y)
      one [] k = absurd k
      one (b ∷ x) k = rw (starts-past x y (later-bytes b x k))

      go : (ws : List ℕ) → front (map encode ws) (a ∷ (y ++ f ∷ r)) ≡ front (map encode ws) (a ∷ y)
      go [] = refl
      go (w ∷ ws) = rw (one (encode w) (character w), go ws)

  module _ (w : blank (f ∷ r) ≡ true) where
    skip_past : (k : ℕ) (y : List ℕ) → k ≤ length y → null (skip_white k (y ++ f ∷ r)) ≡ null (skip_white k y)
    unfolding skip_white blank trim_start
    skip_past zero [] h = w
    skip_past (suc k) [] h = absurd (not-suc-le-zero h)
    skip_past (suc k) (b ∷ y) h = skip_past k y (le_of_suc-le-suc h)
    skip_past zero (b ∷ y) h = rw (white-past b y) (go (white_at (b ∷ y)) (white_most (b ∷ y)) λ k. skip_past k y)
      where
        go : (n : ℕ) → n ≤ suc (length y) → ((k : ℕ) → k ≤ length y → null (skip_white k (y ++ f ∷ r)) ≡ null (skip_white k y))
            → null (pick (eqb n 0) (b ∷ (y ++ f ∷ r)) (skip_white (n - 1) (y ++ f ∷ r))) ≡ null (pick (eqb n 0) (b ∷ y) (skip_white (n - 1) y))
        go zero h ih = refl
        go (suc n) h ih = rw (ne_eqb (suc n) 0 (λ e. omega arith)) (ih (suc n - 1) (omega arith))

    end-past : (y : List ℕ) → trim_end (y ++ f ∷ r) ≡ trim_end y
    unfolding trim_end blank trim_start
    end-past [] = simp w
    end-past (b ∷ y) = simp (skip_past 0 (b ∷ y) (omega arith), end-past y)

-- nothing but white characters at the end goes, whatever stands before it
pub end-blank : (y r : List ℕ) → blank r ≡ true → trim_end (y ++ r) ≡ trim_end y
unfolding blank trim_start skip_white
end-blank y [] h = rw (append-nil y)
end-blank y (f ∷ r) h = end-past f r (λ l. false≢true (simp (white-later f r l) at h)) h y

-- a white character at the front goes, whatever stands after it
pub trim-white : (c : ℕ) (s : List ℕ) → white c ≡ true → trim (encode c ++ s) ≡ trim s
unfolding trim trim_start
trim-white c s h = simp (skip_encode c s, h)

pub trim_lf : (s : List ℕ) → trim (0xA ∷ s) ≡ trim s
unfolding encode white any white_space
trim_lf s = trim-white 0xA s refl

-- Visible bytes

-- a printing character of ASCII, from ! to z
abbrev pub Visible : ℕ → Type 0
Visible b = (33 ≤ b) × (b ≤ 122)

-- a number that passes a test is in no list of which none does
outside : (f : ℕ → Bool) (c : ℕ) → f c ≡ true → (ws : List ℕ) → any f ws ≡ false → any (eqb c) ws ≡ false
unfolding any
outside f c h [] k = refl
outside f c h (w ∷ ws) k =
    let p = or_none (f w) (any f ws) k in
    simp (ne_eqb c w (λ e. false≢true (sym p.0 ∙ sym (ap f e) ∙ h)), outside f c h ws p.1)

pub white_visible : (b : ℕ) (s : List ℕ) → Visible b → white_at (b ∷ s) ≡ 0
unfolding encode white any white_space
white_visible b s h =
    let e = white-encode b s in
    let o : white b ≡ false = outside (λ w. leb 33 w && leb w 122) b (simp (le-leb 33 b h.0, le-leb b 122 h.1)) whites refl in
    simp (lt-ltb b 0x80 (omega arith), o) at e

pub skip_visible : (b : ℕ) (s : List ℕ) → Visible b → skip_white 0 (b ∷ s) ≡ b ∷ s
unfolding skip_white
skip_visible b s h = simp (white_visible b s h)

pub blank_visible : (b : ℕ) (s : List ℕ) → Visible b → blank (b ∷ s) ≡ false
unfolding blank trim_start
blank_visible b s h = simp (skip_visible b s h)

pub end_visible : (s : List ℕ) → All Visible s → trim_end s ≡ s
unfolding trim_end
end_visible [] h = refl
end_visible (b ∷ s) h = simp (blank_visible b s h.0, end_visible s h.1)

pub trim_visible : (s : List ℕ) → All Visible s → trim s ≡ s
unfolding trim trim_start skip_white trim_end
trim_visible [] h = refl
trim_visible (b ∷ s) h = simp (skip_visible b s h.0) (end_visible (b ∷ s) h)

-- Texts of white characters alone

-- what has lost the white characters at its front has none left there
skip_twice : (n : ℕ) (s : List ℕ) → skip_white 0 (skip_white n s) ≡ skip_white n s
unfolding skip_white
skip_twice n [] = refl
skip_twice zero (b ∷ s) = go (eqb (white_at (b ∷ s)) 0) refl (skip_twice (white_at (b ∷ s) - 1) s)
  where
    go : (t : Bool) → eqb (white_at (b ∷ s)) 0 ≡ t
        → skip_white 0 (skip_white (white_at (b ∷ s) - 1) s) ≡ skip_white (white_at (b ∷ s) - 1) s
        → skip_white 0 (skip_white 0 (b ∷ s)) ≡ skip_white 0 (b ∷ s)
    go true e ih = simp e
    go false e ih = simp e ih
skip_twice (suc n) (b ∷ s) = skip_twice n s

-- a text that trims to nothing is white alone, and no other is
pub trim-blank : (s : List ℕ) → null (trim s) ≡ blank s
unfolding trim trim_end blank trim_start
trim-blank s = go (skip_white 0 s) (skip_twice 0 s)
  where
    go : (x : List ℕ) → skip_white 0 x ≡ x → null (trim_end x) ≡ null x
    go [] e = refl
    go (b ∷ x) e = simp e

-- Trimming makes no text longer.

skip_most : (n : ℕ) (s : List ℕ) → length (skip_white n s) ≤ length s
unfolding skip_white
skip_most n [] = omega arith
skip_most zero (b ∷ s) =
    picked (λ (x : List ℕ). length x ≤ suc (length s)) (eqb (white_at (b ∷ s)) 0) (λ _. omega arith) (λ _. let h = skip_most (white_at (b ∷ s) - 1) s in omega arith)
skip_most (suc n) (b ∷ s) = let h = skip_most n s in omega arith

pub end_most : (s : List ℕ) → length (trim_end s) ≤ length s
unfolding trim_end
end_most [] = omega arith
end_most (b ∷ s) = picked (λ (x : List ℕ). length x ≤ suc (length s)) (blank (b ∷ s)) (λ _. omega arith) (λ _. let h = end_most s in omega arith)

pub trim_most : (s : List ℕ) → length (trim s) ≤ length s
unfolding trim trim_start
trim_most s = let h = end_most (skip_white 0 s) in let k = skip_most 0 s in omega arith
