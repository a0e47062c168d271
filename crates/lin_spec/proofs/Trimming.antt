-- What trimming takes, of any bytes, well-formed or not: white characters, whole, in any order and number, from both ends (`trim-takes`), and as
-- many of them as there are (`trim-only`). Which characters are white, `White.white-is` says. (01: Records; 02: N2)
-- Assumes nothing.
use Prim.Native.Nat.{ℕ, zero, suc, ◌-◌, ◌≤◌}
use native.Mathlib.Nat.{not-suc-le-zero, le_of_suc-le-suc}
use native.Mathlib.Omega.{arith}
use mathlib.Core.Path.{◌≡◌, refl, ap, sym, ◌∙◌}
use mathlib.Core.Bool.{Bool, true, false, false≢true, or-true}
use mathlib.Core.List.{List, [], ◌∷◌, ◌++◌, map, append-nil, append_assoc}
use lib.ListN.{length, drop, length-append}
use lib.Dec.{eqb}
use borrow.Author.Tests.{eq-eqb, ne_eqb, eqb-true, eqb-false}
use Rattle.lin_spec.specs.Base.{pick, any, All, null, starts, concat}
use Rattle.lin_spec.specs.Utf8.{encode, encode_all}
use Rattle.lin_spec.specs.White.{whites, front, white_at, skip_white, trim_start, blank, trim_end, trim}
use Rattle.lin_spec.proofs.Base.{picked, starts-split, all_append}
use Rattle.lin_spec.proofs.White.{white, Character, character, first_byte, white-encode, white_most, white-past, skip_encode, skip_at, blank-encode, end-blank, end_most}

-- x neither begins nor ends with a white character
pub record Bare (x : List ℕ) : Type 0 where
  at_front : (c : ℕ) (y : List ℕ) → white c ≡ true → x ≡ encode c ++ y → ⊥
  at-end : (c : ℕ) (y : List ℕ) → white c ≡ true → x ≡ y ++ encode c → ⊥

-- each of the characters is white
abbrev pub Whites : List ℕ → Type 0
Whites cs = All (λ c. white c ≡ true) cs

-- s is x between white characters, and x is bare
pub record Trims (s x : List ℕ) : Type 0 where
  before : List ℕ
  after : List ℕ
  white-before : Whites before
  white-after : Whites after
  whole : s ≡ encode_all before ++ (x ++ encode_all after)
  bare : Bare x

-- Characters at the front

-- s begins with a white character, of n bytes
abbrev Found : List ℕ → ℕ → Type 0
Found s n = (c : ℕ) × (white c ≡ true) × (s ≡ encode c ++ drop n s)

found : (s : List ℕ) → (white_at s ≡ 0 → ⊥) → Found s (white_at s)
unfolding white_at front white any
found s = go whites
  where
    Here : List ℕ → ℕ → Type 0
    Here ws n = (n ≡ 0 → ⊥) → (c : ℕ) × (any (eqb c) ws ≡ true) × (s ≡ encode c ++ drop n s)

    go : (ws : List ℕ) → Here ws (front (map encode ws) s)
    go [] = λ h. absurd (h refl)
    go (w ∷ ws) =
        picked (Here (w ∷ ws)) (starts (encode w) s)
        (λ e _. (w, simp (eq-eqb w w refl), starts-split (encode w) s e))
        (λ _ h. let r = go ws h in (r.0, rw r.1 (or-true (eqb r.0 w)), r.2))

-- a character has a byte
long : (c : ℕ) → length (encode c) ≡ 0 → ⊥
long c = go (encode c) (character c)
  where
    go : (x : List ℕ) → Character x → length x ≡ 0 → ⊥
    go [] k h = k
    go (b ∷ x) k h = omega arith

-- that no character is found at the front, and that none stands there
none-begins : (s : List ℕ) → white_at s ≡ 0 → (c : ℕ) (y : List ℕ) → white c ≡ true → s ≡ encode c ++ y → ⊥
none-begins s h c y k e =
    let f : white_at s ≡ length (encode c) = ap white_at e ∙ white-encode c y ∙ simp k in
    long c (sym f ∙ h)

begins-none : (s : List ℕ) → ((c : ℕ) (y : List ℕ) → white c ≡ true → s ≡ encode c ++ y → ⊥) → white_at s ≡ 0
begins-none s h = go (eqb (white_at s) 0) refl
  where
    go : (t : Bool) → eqb (white_at s) 0 ≡ t → white_at s ≡ 0
    go true e = eqb-true _ _ e
    go false e = let r = found s (eqb-false _ _ e) in absurd (h r.0 _ r.1 r.2)

-- what is left after white characters
abbrev Fronts : List ℕ → List ℕ → Type 0
Fronts s x = (cs : List ℕ) × Whites cs × (s ≡ encode_all cs ++ x)

fronts : (n : ℕ) (s : List ℕ) → n ≤ length s → Fronts (drop n s) (skip_white n s)
unfolding skip_white concat
fronts zero [] h = ([], tt, refl)
fronts (suc n) [] h = absurd (not-suc-le-zero h)
fronts (suc n) (b ∷ s) h = fronts n s (le_of_suc-le-suc h)
fronts zero (b ∷ s) h = go (white_at (b ∷ s)) (white_most (b ∷ s)) (found (b ∷ s)) (λ n. fronts n s)
  where
    go : (n : ℕ) → n ≤ suc (length s) → ((n ≡ 0 → ⊥) → Found (b ∷ s) n) → ((m : ℕ) → m ≤ length s → Fronts (drop m s) (skip_white m s))
        → Fronts (b ∷ s) (pick (eqb n 0) (b ∷ s) (skip_white (n - 1) s))
    go zero l f ih = ([], tt, refl)
    go (suc n) l f ih =
        let r = f (λ e. omega arith) in
        let q = ih n (omega arith) in
        let e : suc n - 1 ≡ n = omega arith in
        rw (ne_eqb (suc n) 0 (λ e. omega arith), e)
        (r.0 ∷ q.0, (r.1, q.1), r.2 ∙ ap (λ (y : List ℕ). encode r.0 ++ y) q.2 ∙ sym (append_assoc (encode r.0) (encode_all q.0) (skip_white n s)))

-- no white character is left at the front
skip_bare : (n : ℕ) (s : List ℕ) → white_at (skip_white n s) ≡ 0
unfolding skip_white
skip_bare n [] = let h = white_most [] in omega arith
skip_bare (suc n) (b ∷ s) = skip_bare n s
skip_bare zero (b ∷ s) = picked (λ x. white_at x ≡ 0) (eqb (white_at (b ∷ s)) 0) (λ e. eqb-true _ _ e) (λ _. skip_bare (white_at (b ∷ s) - 1) s)

-- Characters at the end

-- white characters one after the other are blank
white-blank : (cs : List ℕ) → Whites cs → blank (encode_all cs) ≡ true
unfolding concat blank trim_start skip_white
white-blank [] h = refl
white-blank (c ∷ cs) h = blank-encode c (encode_all cs) ∙ simp (h.0, white-blank cs h.1)

-- what is left before white characters
abbrev Ends : List ℕ → List ℕ → Type 0
Ends s x = (cs : List ℕ) × Whites cs × (s ≡ x ++ encode_all cs)

null-none : (x : List ℕ) → null x ≡ true → x ≡ []
null-none [] h = refl
null-none (b ∷ x) h = absurd (false≢true h)

ends : (s : List ℕ) → Ends s (trim_end s)
unfolding trim_end concat blank trim_start
ends [] = ([], tt, refl)
ends (b ∷ s) =
    picked (Ends (b ∷ s)) (blank (b ∷ s))
    (λ h. let r = fronts 0 (b ∷ s) (omega arith) in
    (r.0, r.1, r.2 ∙ ap (λ (y : List ℕ). encode_all r.0 ++ y) (null-none (skip_white 0 (b ∷ s)) h) ∙ append-nil (encode_all r.0)))
    (λ _. let r = ends s in (r.0, r.1, ap (λ (y : List ℕ). b ∷ y) r.2))

end_twice : (s : List ℕ) → trim_end (trim_end s) ≡ trim_end s
end_twice s =
    let r = ends s in
    sym (end-blank (trim_end s) (encode_all r.0) (white-blank r.0 r.1)) ∙ ap trim_end (sym r.2)

one-blank : (c : ℕ) → white c ≡ true → blank (encode c) ≡ true
unfolding blank trim_start skip_white
one-blank c h = sym (ap blank (append-nil (encode c))) ∙ blank-encode c [] ∙ simp h

-- a text that keeps its end when it is trimmed ends with no white character, and the other way round (`ends-none`)
none-ends : (s : List ℕ) → trim_end s ≡ s → (c : ℕ) (y : List ℕ) → white c ≡ true → s ≡ y ++ encode c → ⊥
none-ends s h c y k e =
    let f : s ≡ trim_end y = sym h ∙ ap trim_end e ∙ end-blank y (encode c) (one-blank c k) in
    let l = sym (ap length e ∙ length-append y (encode c)) ∙ ap length f in
    long c (omega (arith, end_most y))

-- of characters one after the other, the last one
last_one : (c : ℕ) (cs : List ℕ) → Whites (c ∷ cs) → (d : ℕ) × (y : List ℕ) × (white d ≡ true) × (encode_all (c ∷ cs) ≡ y ++ encode d)
unfolding concat
last_one c [] h = (c, [], h.0, append-nil (encode c))
last_one c (a ∷ cs) h =
    let r = last_one a cs h.1 in
    (r.0, encode c ++ r.1, r.2, ap (λ (z : List ℕ). encode c ++ z) r.3 ∙ sym (append_assoc (encode c) r.1 (encode r.0)))

ends-none : (x : List ℕ) → Bare x → trim_end x ≡ x
unfolding concat
ends-none x n = let r = ends x in go r.0 r.1 r.2
  where
    go : (cs : List ℕ) → Whites cs → x ≡ trim_end x ++ encode_all cs → trim_end x ≡ x
    go [] h e = sym (e ∙ append-nil (trim_end x))
    go (c ∷ cs) h e =
        let r = last_one c cs h in
        absurd (n.at-end r.0 (trim_end x ++ r.1) r.2
        (e ∙ ap (λ (z : List ℕ). trim_end x ++ z) r.3 ∙ sym (append_assoc (trim_end x) r.1 (encode r.0))))

-- What trim leaves is bare, and white characters stand around it

pub trim_takes : (s : List ℕ) → Trims s (trim s)
unfolding trim trim_start
trim_takes s =
    let f = fronts 0 s (omega arith) in
    let e = ends (skip_white 0 s) in
    record {
      before = f.0;
      after = e.0;
      white-before = f.1;
      white-after = e.1;
      whole = f.2 ∙ ap (λ (z : List ℕ). encode_all f.0 ++ z) e.2;
      bare = record {
        at_front = λ c y k q.
            none-begins (skip_white 0 s) (skip_bare 0 s) c (y ++ encode_all e.0) k
            (e.2 ∙ ap (λ (z : List ℕ). z ++ encode_all e.0) q ∙ append_assoc (encode c) y (encode_all e.0));
        at-end = none-ends (trim_end (skip_white 0 s)) (end_twice (skip_white 0 s));
      };
    }

-- No other text is so

skip_whites : (cs : List ℕ) → Whites cs → (s : List ℕ) → skip_white 0 (encode_all cs ++ s) ≡ skip_white 0 s
unfolding concat
skip_whites [] h s = refl
skip_whites (c ∷ cs) h s =
    ap (skip_white 0) (append_assoc (encode c) (encode_all cs) s) ∙ skip_encode c (encode_all cs ++ s) ∙ simp h.0 (skip_whites cs h.1 s)

-- a character after some bytes is part of none that begins before it
white_apart : (b : ℕ) (x cs : List ℕ) → white_at (b ∷ (x ++ encode_all cs)) ≡ white_at (b ∷ x)
unfolding concat
white_apart b x [] = ap (λ (y : List ℕ). white_at (b ∷ y)) (append-nil x)
white_apart b x (c ∷ cs) = go (encode c) (character c)
  where
    go : (y : List ℕ) → Character y → white_at (b ∷ (x ++ (y ++ encode_all cs))) ≡ white_at (b ∷ x)
    go [] k = absurd k
    go (f ∷ y) k = white-past f (y ++ encode_all cs) (first_byte f y k) b x

trim-between : (x : List ℕ) → Bare x → (cs : List ℕ) → Whites cs → trim (x ++ encode_all cs) ≡ x
unfolding trim trim_start trim_end blank
trim-between [] n cs h = ap trim_end (null-none (skip_white 0 (encode_all cs)) (white-blank cs h))
trim-between (b ∷ x) n cs h =
    let z : white_at (b ∷ (x ++ encode_all cs)) ≡ 0 = white_apart b x cs ∙ begins-none (b ∷ x) n.at_front in
    let e : skip_white 0 (b ∷ x ++ encode_all cs) ≡ b ∷ x ++ encode_all cs = skip_at (b ∷ x ++ encode_all cs) ∙ simp z in
    ap trim_end e ∙ end-blank (b ∷ x) (encode_all cs) (white-blank cs h) ∙ ends-none (b ∷ x) n

pub trim-only : (s x : List ℕ) → Trims s x → trim s ≡ x
unfolding trim trim_start
trim-only s x t =
    ap trim t.whole ∙ ap trim_end (skip_whites t.before t.white-before (x ++ encode_all t.after)) ∙ trim-between x t.bare t.after t.white-after

-- White characters around a text go, whatever the text is: a word between marks is trimmed as the word alone

encode-append : (x y : List ℕ) → encode_all (x ++ y) ≡ encode_all x ++ encode_all y
unfolding concat
encode-append [] y = refl
encode-append (c ∷ x) y = ap (λ (z : List ℕ). encode c ++ z) (encode-append x y) ∙ sym (append_assoc (encode c) (encode_all x) (encode_all y))

pub trim_around : (ws vs : List ℕ) → Whites ws → Whites vs → (s : List ℕ) → trim (encode_all ws ++ (s ++ encode_all vs)) ≡ trim s
trim_around ws vs h k s =
    let t = trim_takes s in
    trim-only (encode_all ws ++ (s ++ encode_all vs)) (trim s)
    record {
      before = ws ++ t.before;
      after = t.after ++ vs;
      white-before = all_append (λ c. white c ≡ true) ws t.before h t.white-before;
      white-after = all_append (λ c. white c ≡ true) t.after vs t.white-after k;
      whole = ap (λ (z : List ℕ). encode_all ws ++ (z ++ encode_all vs)) t.whole ∙ simp (encode-append, append_assoc);
      bare = t.bare;
    }
