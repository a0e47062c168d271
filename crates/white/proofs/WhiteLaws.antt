-- White characters and words as the code goes through them: the tests on bytes, the loop from the front, the loop from the end, the loop over
-- a word. (01: Records, Tokens)
-- Assumes nothing.
use Prim.Native.Nat.{ℕ, zero, suc, ◌+◌, ◌-◌, ◌≤◌, ◌<◌}
use native.Mathlib.Nat.{not-suc-le-zero, le_of_suc-le-suc}
use native.Mathlib.Numerals.{add-one}
use native.Mathlib.Omega.{arith}
use mathlib.Core.Path.{◌≡◌, refl, ap, sym, ◌∙◌}
use mathlib.Core.Bool.{Bool, true, false, ◌&&◌, ◌||◌, false≢true, and-true, and-false, or-true, or-false, or_assoc, and_assoc, and-or_distrib_left}
use mathlib.Core.List.{List, [], ◌∷◌, ◌++◌, map, append-nil}
use lib.ListN.{length, get_or, take, drop, length-append, length-drop, length-map, drop_of_length-le}
use lib.Seq.{drop-cons, take_at, drop-drop, length-take-le, take_all, take-take}
use lib.Dec.{eqb, leb, ltb}
use Rattle.std.specs.Char.{to_ascii_lowercase}
use borrow.Author.Tests.{eq-eqb, ne_eqb, eqb-true, eqb-false, leb-true, leb-false, ltb-true, ltb-false, le-leb, lt-leb}
use Rattle.lin_spec.specs.Base.{pick, any, null, starts, eq_list, eq_all}
use Rattle.lin_spec.specs.Utf8.{encode}
use Rattle.lin_spec.specs.White.{whites, white_space, front, white_at, skip_white, trim_start, blank, trim_end, trim, lower, same_word}
use Rattle.lin_spec.proofs.Base.{picked, list_eq, eq_list_lem, eq_length, starts-split}
use Rattle.lin_spec.proofs.White.{Character, character, white, blank-encode, skip_at, white_most, end-blank, trim-blank}
use Rattle.white.specs.White.{is_white, white_back, last}

-- One character: the tests are the definition's

-- n numbers from lo on
run : (lo n : ℕ) → List ℕ
run lo zero = []
run lo (suc n) = lo ∷ run (suc lo) n

-- a number from lo to hi is one of these
range : (lo n x hi : ℕ) → lo + n ≡ suc hi → (leb lo x && leb x hi) ≡ any (eqb x) (run lo n)
unfolding run any
range lo zero x hi h = go (leb lo x) (leb x hi) refl refl
  where
    go : (t u : Bool) → leb lo x ≡ t → leb x hi ≡ u → (t && u) ≡ false
    go true true e f = absurd (omega (arith, leb-true lo x e, leb-true x hi f))
    go true false e f = refl
    go false u e f = refl
range lo (suc n) x hi h = rw (← range (suc lo) n x hi (omega arith)) (go (eqb x lo) refl (leb (suc lo) x) refl)
  where
    go : (t : Bool) → eqb x lo ≡ t → (u : Bool) → leb (suc lo) x ≡ u → (leb lo x && leb x hi) ≡ (t || (u && leb x hi))
    go true e u f = let k = eqb-true x lo e in simp (le-leb lo x (omega arith), le-leb x hi (omega arith))
    go false e true f = rw (le-leb lo x (omega (arith, leb-true (suc lo) x f)))
    go false e false f = rw (lt-leb lo x (omega (arith, leb-false (suc lo) x f, eqb-false x lo e)))

pub white₁_is : (a : ℕ) → ((leb 0x9 a && leb a 0xD) || eqb a 0x20) ≡ is_white (a ∷ [])
unfolding is_white any eq_all encode white_space run
white₁_is a = simp (range 0x9 5 a 0xD refl, or_assoc, and-true, and-false, or-false)

pub white₂_is : (a b : ℕ) → (eqb a 0xC2 && (eqb b 0x85 || eqb b 0xA0)) ≡ is_white (a ∷ b ∷ [])
unfolding is_white any eq_all encode white_space
white₂_is a b = simp (and-or_distrib_left, and-true, and-false, or-false)

pub white₃_is : (a b c : ℕ)
    → ((eqb a 0xE1 && eqb b 0x9A && eqb c 0x80)
    || (eqb a 0xE2 && eqb b 0x80 && ((leb 0x80 c && leb c 0x8A) || eqb c 0xA8 || eqb c 0xA9 || eqb c 0xAF))
    || (eqb a 0xE2 && eqb b 0x81 && eqb c 0x9F)
    || (eqb a 0xE3 && eqb b 0x80 && eqb c 0x80)
    || (eqb a 0xEF && eqb b 0xBB && eqb c 0xBF))
    ≡ is_white (a ∷ b ∷ c ∷ [])
unfolding is_white any eq_all encode white_space run
white₃_is a b c = simp (range 0x80 11 c 0x8A refl, and-or_distrib_left, or_assoc, and_assoc, and-true, and-false, or-false)

-- no white character has a byte 0 or more than three bytes
zero-first : (x : List ℕ) → is_white (0 ∷ x) ≡ false
unfolding is_white any eq_all encode white_space
zero-first x = refl

four : (a b c d : ℕ) (s : List ℕ) → is_white (a ∷ b ∷ c ∷ d ∷ s) ≡ false
unfolding is_white any eq_all encode white_space
four a b c d s = simp and-false

-- what passes the test is the bytes of a character of the list
listed : (x ws : List ℕ) → any (eq_list x) (map encode ws) ≡ true → (c : ℕ) × (x ≡ encode c) × (any (eqb c) ws ≡ true)
unfolding any
listed x [] h = absurd (false≢true h)
listed x (w ∷ ws) h = go (eq_list x (encode w)) refl h (listed x ws)
  where
    go : (t : Bool) → eq_list x (encode w) ≡ t → (t || any (eq_list x) (map encode ws)) ≡ true
        → (any (eq_list x) (map encode ws) ≡ true → (c : ℕ) × (x ≡ encode c) × (any (eqb c) ws ≡ true))
        → (c : ℕ) × (x ≡ encode c) × ((eqb c w || any (eqb c) ws) ≡ true)
    go true e h ih = (w, eq_list_lem x (encode w) e, simp (eq-eqb w w refl))
    go false e h ih = let r = ih h in (r.0, r.1, rw r.2 (or-true (eqb r.0 w)))

is_character : (x : List ℕ) → is_white x ≡ true → Character x
unfolding is_white
is_character x h = let r = listed x whites h in rw r.1 (character r.0)

no_character : (x : List ℕ) → (Character x → ⊥) → is_white x ≡ false
no_character x k = go (is_white x) refl
  where
    go : (t : Bool) → is_white x ≡ t → t ≡ false
    go true e = absurd (k (is_character x e))
    go false e = refl

is-blank : (x : List ℕ) → is_white x ≡ true → blank x ≡ true
unfolding is_white white blank trim_start skip_white
is-blank x h =
    let r = listed x whites h in
    let e = blank-encode r.0 [] in
    rw r.1 (simp (append-nil, r.2) at e)

-- Either end: which of x, y and z, of one, two and three bytes, is a white character, 0 where none is

abbrev first_white : (x y z : List ℕ) → ℕ
first_white x y z = pick (is_white x) 1 (pick (is_white y) 2 (pick (is_white z) 3 0))

module _ (n : ℕ) (x y z : List ℕ) (e : n ≡ first_white x y z) (t : Bool) (et : t ≡ is_white x) where
  pub first-white : t ≡ true → 1 ≡ n
  first-white h = sym (e ∙ simp (← et, h))

  pub none-white : t ≡ false → (Character y → ⊥) → (Character z → ⊥) → 0 ≡ n
  none-white h hy hz = sym (e ∙ simp (← et, h, no_character y hy, no_character z hz))

  module _ (h : t ≡ false) (u : Bool) (eu : u ≡ is_white y) where
    pub second-white : u ≡ true → 2 ≡ n
    second-white k = sym (e ∙ simp (← et, h, ← eu, k))

    pub third_white : u ≡ false → (v : Bool) → v ≡ is_white z → (r : Bool) → v ≡ r → pick r 3 0 ≡ n
    third_white k v ev r er = sym (e ∙ simp (← et, h, ← eu, k, ← ev, er))

pick_or : (t u : Bool) (x y : ℕ) → pick t x (pick u x y) ≡ pick (t || u) x y
pick_or true u x y = refl
pick_or false u x y = refl

front-is : (s : List ℕ) → white_at s ≡ first_white (get_or s 0 0 ∷ []) (get_or s 0 0 ∷ get_or s 1 0 ∷ []) (get_or s 0 0 ∷ get_or s 1 0 ∷ get_or s 2 0 ∷ [])
unfolding white_at front starts is_white any eq_all encode white_space
front-is [] = refl
front-is (a ∷ []) = simp (pick_or, and-true, and-false, or-false)
front-is (a ∷ b ∷ []) = simp (pick_or, and-true, and-false, or-false)
front-is (a ∷ b ∷ c ∷ s) = simp (pick_or, and-true, and-false, or-false)

pub front_by : (s : List ℕ) (a b c : ℕ) → a ≡ get_or s 0 0 → b ≡ get_or s 1 0 → c ≡ get_or s 2 0
    → white_at s ≡ first_white (a ∷ []) (a ∷ b ∷ []) (a ∷ b ∷ c ∷ [])
front_by s a b c ea eb ec = rw (ea, eb, ec) (front-is s)

abbrev or_else : ℕ → ℕ → ℕ
or_else n m = pick (eqb n 0) m n

or_zero : (n : ℕ) → or_else n 0 ≡ n
or_zero zero = refl
or_zero (suc n) = simp (ne_eqb (suc n) 0 (λ e. omega arith))

or_three : (t u v : Bool) → or_else (or_else (pick t 1 0) (pick u 2 0)) (pick v 3 0) ≡ pick t 1 (pick u 2 (pick v 3 0))
or_three true u v = refl
or_three false true v = refl
or_three false false v = refl

last_tail : (a : ℕ) (s : List ℕ) (k : ℕ) → k ≤ length s → last (a ∷ s) k ≡ last s k
unfolding last
last_tail a s k h =
    let e : suc (length s) - k ≡ suc (length s - k) = omega arith in
    simp (le-leb k (length s) h, le-leb k (suc (length s)) (omega arith), e)

back_is : (s : List ℕ) → white_back s ≡ first_white (last s 1 ∷ []) (last s 2 ∷ last s 1 ∷ []) (last s 3 ∷ last s 2 ∷ last s 1 ∷ [])
unfolding white_back
back_is [] = unfold last in simp zero-first
back_is (a ∷ []) = unfold last in simp zero-first
back_is (a ∷ b ∷ []) = unfold last in simp zero-first (sym (or_zero _) ∙ or_three (is_white (b ∷ [])) (is_white (a ∷ b ∷ [])) false)
back_is (a ∷ b ∷ c ∷ []) = unfold last in or_three (is_white (c ∷ [])) (is_white (b ∷ c ∷ [])) (is_white (a ∷ b ∷ c ∷ []))
back_is (a ∷ b ∷ c ∷ d ∷ s) =
    let l = last_tail a (b ∷ c ∷ d ∷ s) in
    simp (four, or_zero (white_back (b ∷ c ∷ d ∷ s)), l 1 (omega arith), l 2 (omega arith), l 3 (omega arith)) (back_is (b ∷ c ∷ d ∷ s))

pub back_by : (s : List ℕ) (a b c : ℕ) → a ≡ last s 3 → b ≡ last s 2 → c ≡ last s 1
    → white_back s ≡ first_white (c ∷ []) (b ∷ c ∷ []) (a ∷ b ∷ c ∷ [])
back_by s a b c ea eb ec = rw (ea, eb, ec) (back_is s)

-- The loop from the front

-- the white characters before i are passed
abbrev pub Start : List ℕ → ℕ → Type 0
Start s i = (trim_start (drop i s) ≡ trim_start s) × (i ≤ length s)

-- nothing else stands before i
abbrev pub Starts : List ℕ → ℕ → Type 0
Starts s i = (drop i s ≡ trim_start s) × (i ≤ length s)

rest_all : (s : List ℕ) (i : ℕ) → take (length s - i) (drop i s) ≡ drop i s
rest_all s i = take_all (length s - i) (drop i s) (rw (length-drop i s) (omega arith))

-- w is found at i, in the part from there on as a borrow gives it
module _ (s : List ℕ) (i w : ℕ) (g : Start s i) (e : w ≡ white_at (take (length s - i) (drop i s))) where
  at_rest : w ≡ white_at (drop i s)
  at_rest = e ∙ ap white_at (rest_all s i)

  pub start-room : i + w ≤ length s
  start-room = let l : w ≤ length (drop i s) = rw at_rest (white_most (drop i s)) in omega (arith, length-drop i s)

  pub start-done : w ≡ 0 → Starts s i
  unfolding trim_start
  start-done z = (sym (skip_at (drop i s) ∙ simp (← at_rest, z)) ∙ g.0, g.1)

  pub start-next : (w ≡ 0 → ⊥) → Start s (i + w)
  unfolding trim_start
  start-next h = (ap (skip_white 0) (sym (drop-drop w i s)) ∙ sym (skip_at (drop i s) ∙ simp (← at_rest, ne_eqb w 0 h)) ∙ g.0, start-room)

pub start-end : (s : List ℕ) (i : ℕ) → Start s i → length s ≤ i → Starts s i
unfolding trim_start skip_white
start-end s i g h = (rw (drop_of_length-le s h) (rw (drop_of_length-le s h) at g.0), g.1)

-- The loop from the end

-- the white characters from n on are passed
abbrev pub End : List ℕ → ℕ → Type 0
End s n = (trim_end (take n s) ≡ trim_end s) × (n ≤ length s)

-- nothing else stands from n on
abbrev pub Ends : List ℕ → ℕ → Type 0
Ends s n = (take n s ≡ trim_end s) × (n ≤ length s)

-- what white_back finds: a white character x at the end
record Split (s : List ℕ) (n : ℕ) : Type 0 where
  y : List ℕ
  x : List ℕ
  whole : s ≡ y ++ x
  is_white : is_white x ≡ true
  long : length x ≡ n

split : (s : List ℕ) → (white_back s ≡ 0 → ⊥) → Split s (white_back s)
unfolding white_back
split [] h = absurd (h refl)
split (b ∷ s) h =
    picked Here (eqb (white_back s) 0)
    (λ _. picked Here (is_white (b ∷ s)) (λ e _. record { y = []; x = b ∷ s; whole = refl; is_white = e; long = refl }) (λ _ k. absurd (k refl)))
    (λ _ k. more (split s k)) h
  where
    Here : ℕ → Type 0
    Here n = (n ≡ 0 → ⊥) → Split (b ∷ s) n

    more : {n : ℕ} → Split s n → Split (b ∷ s) n
    more p = record { y = b ∷ p.y; x = p.x; whole = ap (λ (r : List ℕ). b ∷ r) p.whole; is_white = p.is_white; long = p.long }

back_less : (s : List ℕ) (w : ℕ) → w ≡ white_back s → (w ≡ 0 → ⊥) → (w ≤ length s) × (trim_end (take (length s - w) s) ≡ trim_end s)
back_less s w e h =
    let p : Split s w = rw e (split s (rw e at h)) in
    let l = ap length p.whole ∙ length-append p.y p.x in
    let k : length p.y ≡ length s - w = omega (arith, p.long) in
    let f : take (length s - w) s ≡ p.y = ap (take (length s - w)) p.whole ∙ take_at p.y p.x (length s - w) k in
    (omega (arith, p.long), ap trim_end f ∙ sym (ap trim_end p.whole ∙ end-blank p.y p.x (is-blank p.x p.is_white)))

-- where it finds none: none in what is left without the first byte, and the whole is no white character
back_tail : (a : ℕ) (s : List ℕ) → white_back (a ∷ s) ≡ 0 → (white_back s ≡ 0) × (is_white (a ∷ s) ≡ false)
unfolding white_back
back_tail a s h = go (eqb (white_back s) 0) refl (is_white (a ∷ s)) h
  where
    go : (t : Bool) → eqb (white_back s) 0 ≡ t → (u : Bool) → pick t (pick u (suc (length s)) 0) (white_back s) ≡ 0 → (white_back s ≡ 0) × (u ≡ false)
    go true e true h = absurd (omega arith)
    go true e false h = (eqb-true _ _ e, refl)
    go false e u h = absurd (eqb-false _ _ e h)

white-whole : (s : List ℕ) → 0 < length s → white_at s ≡ length s → is_white s ≡ true
unfolding white_at front is_white any
white-whole s l h = go (map encode whites) h
  where
    one : (w : List ℕ) → starts w s ≡ true → length w ≡ length s → eq_list s w ≡ true
    one w e k =
        let p : drop (length w) s ≡ [] = drop_of_length-le s {i = length w} (omega arith) in
        let q : s ≡ w = starts-split w s e ∙ ap (λ (r : List ℕ). w ++ r) p ∙ append-nil w in
        rw (← q) (list_eq s)

    go : (ws : List (List ℕ)) → front ws s ≡ length s → any (eq_list s) ws ≡ true
    go [] h = absurd (omega arith)
    go (w ∷ ws) h =
        picked (λ n. n ≡ length s → (eq_list s w || any (eq_list s) ws) ≡ true) (starts w s)
        (λ e k. rw (one w e k)) (λ _ k. rw (go ws k) (or-true (eq_list s w))) h

shorter : (a : ℕ) (s : List ℕ) → is_white (a ∷ s) ≡ false → white_at (a ∷ s) ≤ length s
shorter a s h = go (leb (white_at (a ∷ s)) (length s)) refl
  where
    go : (t : Bool) → leb (white_at (a ∷ s)) (length s) ≡ t → white_at (a ∷ s) ≤ length s
    go true e = leb-true _ _ e
    go false e =
        let n : white_at (a ∷ s) ≡ suc (length s) = omega (arith, white_most (a ∷ s), leb-false (white_at (a ∷ s)) (length s) e) in
        absurd (false≢true (sym h ∙ white-whole (a ∷ s) (omega arith) n))

not-blank : (k : ℕ) (s : List ℕ) → white_back s ≡ 0 → k < length s → null (skip_white k s) ≡ false
unfolding skip_white
not-blank k [] h l = absurd (not-suc-le-zero l)
not-blank (suc k) (a ∷ s) h l = not-blank k s (back_tail a s h).0 (le_of_suc-le-suc l)
not-blank zero (a ∷ s) h l = go (white_at (a ∷ s)) (shorter a s (back_tail a s h).1) (λ k. not-blank k s (back_tail a s h).0)
  where
    go : (n : ℕ) → n ≤ length s → ((k : ℕ) → k < length s → null (skip_white k s) ≡ false) → null (pick (eqb n 0) (a ∷ s) (skip_white (n - 1) s)) ≡ false
    go zero h ih = refl
    go (suc n) h ih = rw (ne_eqb (suc n) 0 (λ e. omega arith)) (ih (suc n - 1) (omega arith))

back_none : (s : List ℕ) → white_back s ≡ 0 → trim_end s ≡ s
unfolding trim_end blank trim_start
back_none [] h = refl
back_none (a ∷ s) h = simp (not-blank 0 (a ∷ s) h (omega arith), back_none s (back_tail a s h).0)

-- w is found at the end of the first n bytes
module _ (s : List ℕ) (n w : ℕ) (g : End s n) (e : w ≡ white_back (take n s)) where
  pub end-room : w ≤ n
  end-room = go (eqb w 0) refl
    where
      go : (t : Bool) → eqb w 0 ≡ t → w ≤ n
      go true k = omega (arith, eqb-true w 0 k)
      go false k = rw (length-take-le n s g.1) at (back_less (take n s) w e (eqb-false w 0 k)).0

  pub end-done : w ≡ 0 → Ends s n
  end-done z = (sym (back_none (take n s) (sym e ∙ z)) ∙ g.0, g.1)

  pub end-next : (w ≡ 0 → ⊥) → End s (n - w)
  end-next k =
      let f = (back_less (take n s) w e k).1 in
      ((rw (length-take-le n s g.1, take-take (n - w) n s (omega arith)) at f) ∙ g.0, omega arith)

pub end-end : (s : List ℕ) (n : ℕ) → End s n → n ≤ 0 → Ends s n
unfolding trim_end
end-end s zero g h = g
end-end s (suc n) g h = absurd (not-suc-le-zero h)

-- Both ends, one after the other

pub both_ends : (s r : List ℕ) (i : ℕ) → Starts s i → r ≡ trim_end (take (length s - i) (drop i s)) → r ≡ trim s
unfolding trim
both_ends s r i g e = e ∙ ap trim_end (rest_all s i ∙ g.0)

-- Ends of ASCII that are not white

-- a byte of ASCII above 20 hex, by the tests on it, is no white character and in none
plain-white : (b : ℕ) → 0x20 < b → is_white (b ∷ []) ≡ false
plain-white b h = sym (white₁_is b) ∙ simp (lt-leb b 0xD (omega arith), and-false, ne_eqb b 0x20 (λ e. omega arith))

plain-front : (s : List ℕ) → 0x20 < get_or s 0 0 → get_or s 0 0 < 0x80 → white_at s ≡ 0
plain-front s h k = sym (none-white (white_at s) _ _ _ (front-is s) _ refl (plain-white (get_or s 0 0) h) (λ c. omega arith) (λ c. omega arith))

plain_back : (s : List ℕ) → 0x20 < last s 1 → last s 1 < 0x80 → white_back s ≡ 0
plain_back s h k = sym (none-white (white_back s) _ _ _ (back_is s) _ refl (plain-white (last s 1) h) (λ c. omega arith) (λ c. omega arith))

all-four : (p q r t : Bool) → (p && q && r && t) ≡ true → (p ≡ true) × (q ≡ true) × (r ≡ true) × (t ≡ true)
all-four true true true true h = (refl, refl, refl, refl)
all-four true true true false h = absurd (false≢true h)
all-four true true false t h = absurd (false≢true h)
all-four true false r t h = absurd (false≢true h)
all-four false q r t h = absurd (false≢true h)

-- a text stays whose first and last byte are such
pub plain-trim : (s : List ℕ) → (length s ≡ 0 → ⊥)
    → (ltb 0x20 (get_or s 0 0) && ltb (get_or s 0 0) 0x80 && ltb 0x20 (get_or s (length s - 1) 0) && ltb (get_or s (length s - 1) 0) 0x80) ≡ true
    → trim s ≡ s
unfolding trim trim_start last
plain-trim s n h =
    let q = all-four (ltb 0x20 (get_or s 0 0)) (ltb (get_or s 0 0) 0x80) (ltb 0x20 (get_or s (length s - 1) 0)) (ltb (get_or s (length s - 1) 0) 0x80) h in
    let f = plain-front s (ltb-true 0x20 (get_or s 0 0) q.0) (ltb-true (get_or s 0 0) 0x80 q.1) in
    let l : last s 1 ≡ get_or s (length s - 1) 0 = simp (le-leb 1 (length s) (omega (arith, n))) in
    let g = plain_back s (rw l (ltb-true 0x20 (get_or s (length s - 1) 0) q.2)) (rw l (ltb-true (get_or s (length s - 1) 0) 0x80 q.3)) in
    let e : skip_white 0 s ≡ s = skip_at s ∙ simp f in
    ap trim_end e ∙ back_none s g

-- Words

-- std's small letter
pub lower-is : (b : ℕ) → to_ascii_lowercase b ≡ lower b
unfolding lower
lower-is b = go (ltb b 0x41) refl (ltb b 0x5B) refl
  where
    go : (t : Bool) → ltb b 0x41 ≡ t → (u : Bool) → ltb b 0x5B ≡ u → to_ascii_lowercase b ≡ lower b
    go true e u f = simp (e, lt-leb 0x41 b (ltb-true b 0x41 e))
    go false e true f = let h : b ≤ 0x5A = omega (arith, ltb-true b 0x5B f) in simp (e, f, le-leb 0x41 b (omega (arith, ltb-false b 0x41 e)), le-leb b 0x5A h)
    go false e false f = let h : 0x5A < b = omega (arith, ltb-false b 0x5B f) in simp (e, f, lt-leb b 0x5A h, and-false)

-- what is left at i decides as the whole does
abbrev pub Word : List ℕ → List ℕ → ℕ → Type 0
Word s w i = same_word (drop i s) (drop i w) ≡ same_word s w

pub word-length : (s w : List ℕ) → (length s ≡ length w → ⊥) → false ≡ same_word s w
unfolding same_word
word-length s w h = sym (eq_length (map lower s) w (λ e. h (sym (length-map s lower) ∙ e)))

module _ (s w : List ℕ) (l : length s ≡ length w) (i : ℕ) (g : Word s w i) where
  pub word_end : length s ≤ i → true ≡ same_word s w
  unfolding same_word eq_all
  word_end h = sym (rw (drop_of_length-le s h, drop_of_length-le w {i = i} (omega arith))) ∙ g

  module _ (h : i < length s) (x : ℕ) (e : x ≡ lower (get_or s i 0)) where
    pub word_next : x ≡ get_or w i 0 → Word s w (i + 1)
    unfolding same_word eq_all
    word_next k = rw add-one (rw (drop-cons s i 0 h, drop-cons w i 0 (omega arith), eq-eqb _ _ (sym e ∙ k)) at g)

    pub word_differ : (x ≡ get_or w i 0 → ⊥) → false ≡ same_word s w
    unfolding same_word eq_all
    word_differ k = sym (rw (drop-cons s i 0 h, drop-cons w i 0 (omega arith), ne_eqb _ _ (λ q. k (e ∙ q)))) ∙ g

null-length : (x : List ℕ) → eqb (length x) 0 ≡ null x
null-length [] = refl
null-length (b ∷ x) = ne_eqb (suc (length x)) 0 (λ e. omega arith)

-- the test of a trimmed text's length
pub blank-is : (s t : List ℕ) → t ≡ trim s → eqb (length t) 0 ≡ blank s
blank-is s t e = null-length t ∙ ap null e ∙ trim-blank s
