-- Laws of UTF-8: the longest well-formed start is what its name says; texts one after the other; and the machine takes the encodings of
-- the scalar values, and nothing else. (01: Eight refusals, 2 and 6)
-- Assumes nothing.
use Prim.Native.Nat.{ℕ, zero, suc, ◌+◌, ◌*◌, ◌-◌, ◌/◌, ◌%◌, ◌≤◌, ◌<◌, zero-le, suc-le-suc}
use native.Mathlib.Nat.{not-suc-le-zero, le_of_suc-le-suc, le_refl}
use native.Mathlib.Omega.{arith}
use mathlib.Core.Path.{◌≡◌, refl, ap, sym, ◌∙◌}
use mathlib.Core.Bool.{Bool, true, false, ◌&&◌, ◌||◌, not, false≢true, or-true, or-false}
use mathlib.Core.List.{List, [], ◌∷◌, ◌++◌}
use mathlib.Core.Logic.{◌⊎◌, inl, inr, ⊎_elim}
use lib.ListN.{length, take, drop, length-append, length-drop}
use lib.Seq.{take-length, take-add, take-append-le, take-append-add}
use lib.Dec.{eqb, leb, ltb, eqb-suc-zero}
use borrow.Author.Tests.{eq-eqb, ne_eqb, eqb-true, eqb-false, le-leb, lt-leb, leb-true, ltb-true, ltb-false, lt-ltb, le-ltb}
use Rattle.lin_spec.specs.Base.{pick, All, concat}
use Rattle.lin_spec.specs.Utf8.{Utf, first, tails, utf_step, utf, is_whole, utf8, reach, longest, encode, scalar, encode_all}
use Rattle.lin_spec.specs.Utf8.Utf.{whole, needs, ill}
use Rattle.lin_spec.proofs.Base.{and_left, and_right, picked, split}

-- The machine

-- a text is fed after another
pub utf-append : (u : Utf) (x y : List ℕ) → utf u (x ++ y) ≡ utf (utf u x) y
unfolding utf
utf-append u [] y = refl
utf-append u (b ∷ x) y = utf-append (utf_step u b) x y

-- nothing mends an ill-formed text
pub utf-ill : (s : List ℕ) → utf ill s ≡ ill
unfolding utf utf_step
utf-ill [] = refl
utf-ill (b ∷ s) = utf-ill s

is-whole : (u : Utf) → is_whole u ≡ true → u ≡ whole
is-whole whole h = refl
is-whole (needs n lo hi) h = absurd (false≢true h)
is-whole ill h = absurd (false≢true h)

-- after a text of UTF-8 the machine stands between two characters
pub utf8-whole : (s : List ℕ) → utf8 s ≡ true → utf whole s ≡ whole
unfolding utf8
utf8-whole s h = is-whole (utf whole s) h

-- where the machine stands between two characters, the text is UTF-8
pub whole-utf8 : (s : List ℕ) → utf whole s ≡ whole → utf8 s ≡ true
unfolding utf8
whole-utf8 s h = ap is_whole h

-- Texts one after the other

-- after UTF-8 the rest decides
pub utf8-after : (x y : List ℕ) → utf8 x ≡ true → utf8 (x ++ y) ≡ utf8 y
unfolding utf8
utf8-after x y h = ap is_whole (utf-append whole x y ∙ ap (λ (u : Utf). utf u y) (utf8-whole x h))

-- UTF-8 and then UTF-8 is UTF-8
pub utf8_append : (x y : List ℕ) → utf8 x ≡ true → utf8 y ≡ true → utf8 (x ++ y) ≡ true
utf8_append x y h k = utf8-after x y h ∙ k

-- a byte of ASCII
abbrev pub Ascii : ℕ → Type 0
Ascii b = b ≤ 0x7F

ascii-first : (b : ℕ) → Ascii b → first b ≡ whole
unfolding first
ascii-first b h = simp (le-leb b 0x7F h)

-- bytes of ASCII are UTF-8
pub utf8-ascii : (s : List ℕ) → All Ascii s → utf8 s ≡ true
unfolding utf8 utf utf_step
utf8-ascii [] h = refl
utf8-ascii (b ∷ s) h = simp (ascii-first b h.0) (utf8-ascii s h.1)

-- every byte is ASCII, as a test
unfoldable pub all_ascii : List ℕ → Bool
all_ascii [] = true
all_ascii (b ∷ s) = leb b 0x7F && all_ascii s

-- a list that is written out is UTF-8 by computation: `by-ascii s refl`
pub by-ascii : (s : List ℕ) → all_ascii s ≡ true → utf8 s ≡ true
unfolding all_ascii
by-ascii s h = utf8-ascii s (go s h)
  where
    go : (t : List ℕ) → all_ascii t ≡ true → All Ascii t
    go [] h = tt
    go (b ∷ t) h = (leb-true b 0x7F (and_left (leb b 0x7F) (all_ascii t) h), go t (and_right (leb b 0x7F) (all_ascii t) h))

-- The longest well-formed start

-- the reach from a byte on: 1 where only that byte brings the machine between characters, 1 more than from the next on where a later one does, or 0
reached : (P : ℕ → Type 0) (u : Utf) (b : ℕ) (s : List ℕ)
    → (is_whole (utf_step u b) ≡ true → P 1) → (0 < reach (utf_step u b) s → P (suc (reach (utf_step u b) s))) → P 0
    → P (reach u (b ∷ s))
unfolding reach
reached P u b s one more none = go (reach (utf_step u b) s) more
  where
    go : (k : ℕ) → (0 < k → P (suc k)) → P (pick (is_whole (utf_step u b) || not (eqb k 0)) (suc k) 0)
    go zero more = picked P (is_whole (utf_step u b) || false) (λ e. one (simp or-false at e)) (λ _. none)
    go (suc k) more = simp (eqb-suc-zero, or-true) (more (suc-le-suc zero-le))

reach-within : (u : Utf) (s : List ℕ) → reach u s ≤ length s
unfolding reach
reach-within u [] = zero-le
reach-within u (b ∷ s) = reached (λ (n : ℕ). n ≤ suc (length s)) u b s (λ _. suc-le-suc zero-le) (λ _. suc-le-suc (reach-within (utf_step u b) s)) zero-le

reach-is : (u : Utf) (s : List ℕ) → 0 < reach u s → is_whole (utf u (take (reach u s) s)) ≡ true
unfolding reach utf
reach-is u [] h = absurd (not-suc-le-zero h)
reach-is u (b ∷ s) h =
    reached (λ (n : ℕ). 0 < n → is_whole (utf u (take n (b ∷ s))) ≡ true) u b s (λ w _. w) (λ k _. reach-is (utf_step u b) s k) (λ z. absurd (not-suc-le-zero z)) h

reach_most : (u : Utf) (s : List ℕ) (k : ℕ) → k < length s → is_whole (utf u (take (suc k) s)) ≡ true → k < reach u s
unfolding reach utf
reach_most u [] k l h = absurd (not-suc-le-zero l)
reach_most u (b ∷ s) zero l h = simp h (suc-le-suc zero-le)
reach_most u (b ∷ s) (suc k) l h =
    let ih = reach_most (utf_step u b) s k (le_of_suc-le-suc l) h in
    simp (ne_eqb (reach (utf_step u b) s) 0 (λ e. omega arith), or-true) (suc-le-suc ih)

-- the longest well-formed start lies within the text
pub longest-within : (s : List ℕ) → longest s ≤ length s
unfolding longest
longest-within s = reach-within whole s

-- it is well formed
pub longest-is : (s : List ℕ) → utf8 (take (longest s) s) ≡ true
unfolding longest utf8
longest-is s = go (longest s) (reach-is whole s)
  where
    go : (n : ℕ) → (0 < n → utf8 (take n s) ≡ true) → utf8 (take n s) ≡ true
    go zero f = unfold utf in refl
    go (suc n) f = f (suc-le-suc zero-le)

-- no longer start is well formed
pub longest_most : (s : List ℕ) (k : ℕ) → k ≤ length s → utf8 (take k s) ≡ true → k ≤ longest s
unfolding longest utf8
longest_most s zero l h = zero-le
longest_most s (suc k) l h = reach_most whole s k l h

-- a text is UTF-8 where its longest well-formed start is all of it
pub utf8-longest : (s : List ℕ) → utf8 s ≡ eqb (longest s) (length s)
utf8-longest s = go (eqb (longest s) (length s)) refl (utf8 s) refl
  where
    go : (t : Bool) → eqb (longest s) (length s) ≡ t → (u : Bool) → utf8 s ≡ u → u ≡ t
    go true e u f = sym f ∙ rw (eqb-true (longest s) (length s) e, take-length) at (longest-is s)
    go false e true f = absurd (eqb-false (longest s) (length s) e (omega (arith, longest-within s, longest_most s (length s) (le_refl (length s)) (rw take-length f))))
    go false e false f = refl

-- for a check that knows the longest well-formed start: shorter than the text, or all of it
pub short : (s : List ℕ) (n : ℕ) → n ≡ longest s → n < length s → utf8 s ≡ false
short s n e h = utf8-longest s ∙ ne_eqb (longest s) (length s) (λ k. omega arith)

pub whole-text : (s : List ℕ) (n : ℕ) → n ≡ longest s → length s ≤ n → utf8 s ≡ true
whole-text s n e h =
    let l = longest-within s in
    utf8-longest s ∙ eq-eqb (longest s) (length s) (omega arith)

-- after a well-formed start of n bytes the rest decides
pub longest-after : (n : ℕ) (t : List ℕ) → n ≤ length t → utf8 (take n t) ≡ true → longest t ≡ n + longest (drop n t)
longest-after n t l h = omega (arith, longest_most t n l h, at_least, at_most)
  where
    m : ℕ
    m = longest (drop n t)

    k : ℕ
    k = longest t - n

    at_least : n + m ≤ longest t
    at_least =
        let w : m ≤ length t - n = rw length-drop at (longest-within (drop n t)) in
        longest_most t (n + m) (omega arith) (rw take-add (utf8_append (take n t) (take m (drop n t)) h (longest-is (drop n t))))

    at_most : longest t - n ≤ m
    at_most =
        let e : longest t ≡ n + k = omega (arith, longest_most t n l h) in
        let f : utf8 (take n t ++ take k (drop n t)) ≡ true = rw (e, take-add) at (longest-is t) in
        longest_most (drop n t) k (rw length-drop (omega (arith, longest-within t))) (sym (utf8-after (take n t) (take k (drop n t)) h) ∙ f)

-- Characters

-- RFC 3629, 4: UTF8-tail = %x80-BF
abbrev Tail : ℕ → Type 0
Tail b = (0x80 ≤ b) × (b ≤ 0xBF)

utf-tails : (s : List ℕ) → All Tail s → utf (tails (length s)) s ≡ whole
unfolding utf utf_step
utf-tails [] h = refl
utf-tails (b ∷ s) h = simp (le-leb 0x80 b h.0.0, le-leb b 0xBF h.0.1) (utf-tails s h.1)

-- a first byte, a second in the range that the first gives, and as many tails as it says
char_utf8 : (a b : ℕ) (s : List ℕ) → All Tail s → (lo hi : ℕ) → first a ≡ needs (length s) lo hi → (lo ≤ b) × (b ≤ hi) → utf8 (a ∷ b ∷ s) ≡ true
unfolding utf utf_step
char_utf8 a b s h lo hi e l = whole-utf8 (a ∷ b ∷ s) (simp (e, le-leb lo b l.0, le-leb b hi l.1) (utf-tails s h))

-- RFC 3629, 4: the rows of `first`, by the first byte
first-at : (a k : ℕ) → a ≡ k → first a ≡ first k
first-at a k e = ap first e

first_two : (a : ℕ) → 0xC2 ≤ a → a ≤ 0xDF → first a ≡ needs 0 0x80 0xBF
unfolding first
first_two a h k = simp (lt-leb a 0x7F (omega arith), le-leb 0xC2 a h, le-leb a 0xDF k)

first_three : (a : ℕ) → 0xE1 ≤ a → a ≤ 0xEF → (a ≡ 0xED → ⊥) → first a ≡ needs 1 0x80 0xBF
unfolding first
first_three a h k n =
    simp (lt-leb a 0x7F (omega arith), lt-leb a 0xDF (omega arith), le-leb 0xC2 a (omega arith), ne_eqb a 0xE0 (λ e. omega arith), ne_eqb a 0xED n, le-leb 0xE1 a h, le-leb a 0xEF k)

first-four : (a : ℕ) → 0xF1 ≤ a → a ≤ 0xF3 → first a ≡ needs 2 0x80 0xBF
unfolding first
first-four a h k =
    simp (lt-leb a 0x7F (omega arith), lt-leb a 0xDF (omega arith), lt-leb a 0xEF (omega arith), le-leb 0xC2 a (omega arith), le-leb 0xE1 a (omega arith), ne_eqb a 0xE0 (λ e. omega arith), ne_eqb a 0xED (λ e. omega arith), ne_eqb a 0xF0 (λ e. omega arith), le-leb 0xF1 a h, le-leb a 0xF3 k)

-- a scalar value lies before the surrogates or after them
scalar_cases : {P : Type 0} (c : ℕ) → scalar c ≡ true → (c < 0xD800 → P) → (0xE000 ≤ c → c < 0x110000 → P) → P
scalar_cases {P} c h f g = go (ltb c 0xD800) refl
  where
    go : (t : Bool) → ltb c 0xD800 ≡ t → P
    go true e = f (ltb-true c 0xD800 e)
    go false e =
        let k : (leb 0xE000 c && ltb c 0x110000) ≡ true = simp e at h in
        g (leb-true 0xE000 c (and_left _ (ltb c 0x110000) k)) (ltb-true c 0x110000 (and_right (leb 0xE000 c) _ k))

-- the bytes of a scalar value are UTF-8
pub encode_utf8 : (c : ℕ) → scalar c ≡ true → utf8 (encode c) ≡ true
unfolding encode first
encode_utf8 c h =
    picked Good (ltb c 0x80) (λ e. let l = ltb-true c 0x80 e in utf8-ascii (c ∷ []) (omega arith, tt)) λ e₁.
    picked Good (ltb c 0x800) (λ e. two (ltb-false c 0x80 e₁) (ltb-true c 0x800 e)) λ e₂.
    picked Good (ltb c 0x10000) (λ e. three (ltb-false c 0x800 e₂) (ltb-true c 0x10000 e)) (λ e. four (ltb-false c 0x10000 e))
  where
    Good : List ℕ → Type 0
    Good s = utf8 s ≡ true

    tail : (x : ℕ) → Tail (0x80 + x % 64)
    tail x = omega arith

    two : 0x80 ≤ c → c < 0x800 → utf8 ((0xC0 + c / 64) ∷ (0x80 + c % 64) ∷ []) ≡ true
    two l m =
        let a = 0xC0 + c / 64 in
        char_utf8 a (0x80 + c % 64) [] tt 0x80 0xBF (first_two a (omega arith) (omega arith)) (omega arith)

    three : 0x800 ≤ c → c < 0x10000 → utf8 ((0xE0 + c / 4096) ∷ (0x80 + c / 64 % 64) ∷ (0x80 + c % 64) ∷ []) ≡ true
    three l m =
        let a = 0xE0 + c / 4096 in
        let by = char_utf8 a (0x80 + c / 64 % 64) ((0x80 + c % 64) ∷ []) (tail c, tt) in
        scalar_cases c h
        (λ k₁. split c 0x1000 (λ k₂. by 0xA0 0xBF (first-at a 0xE0 (omega arith)) (omega arith)) λ k₂.
        split c 0xD000 (λ k₃. by 0x80 0xBF (first_three a (omega arith) (omega arith) (λ e. omega arith)) (omega arith))
        (λ k₃. by 0x80 _ (first-at a 0xED (omega arith)) (omega arith)))
        (λ k₁ k₂. by 0x80 0xBF (first_three a (omega arith) (omega arith) (λ e. omega arith)) (omega arith))

    four : 0x10000 ≤ c → utf8 ((0xF0 + c / 262144) ∷ (0x80 + c / 4096 % 64) ∷ (0x80 + c / 64 % 64) ∷ (0x80 + c % 64) ∷ []) ≡ true
    four l =
        let a = 0xF0 + c / 262144 in
        let by = char_utf8 a (0x80 + c / 4096 % 64) ((0x80 + c / 64 % 64) ∷ (0x80 + c % 64) ∷ []) (tail (c / 64), (tail c, tt)) in
        scalar_cases c h (λ k₁. absurd (omega arith)) λ k₁ k₂.
        split c 0x40000 (λ k₃. by 0x90 0xBF (first-at a 0xF0 (omega arith)) (omega arith)) λ k₃.
        split c 0x100000 (λ k₄. by 0x80 0xBF (first-four a (omega arith) (omega arith)) (omega arith))
        (λ k₄. by 0x80 0x8F (first-at a 0xF4 (omega arith)) (omega arith))

-- the encoding of any scalar values is UTF-8
pub encoded : (cs : List ℕ) → All (λ (c : ℕ). scalar c ≡ true) cs → utf8 (encode_all cs) ≡ true
unfolding concat all_ascii
encoded [] h = by-ascii [] refl
encoded (c ∷ cs) h = utf8_append (encode c) (encode_all cs) (encode_utf8 c h.0) (encoded cs h.1)

-- RFC 3629, 4: what a first byte a says of a second from lo to hi, with n tails after it, in bounds that the rows for n share
-- (no shorter encoding, no surrogate, at most 10FFFF hex)
abbrev Opens : (n a lo hi : ℕ) → Type 0
Opens zero a lo hi = (0xC2 ≤ a) × (a ≤ 0xDF) × (0x80 ≤ lo) × (hi ≤ 0xBF)
Opens (suc zero) a lo hi =
    ((0xE0 ≤ a) × (a ≤ 0xEF) × (0x80 ≤ lo) × (hi ≤ 0xBF) × (0xE0 * 64 + 0xA0 ≤ a * 64 + lo))
    × ((a * 64 + hi ≤ 0xED * 64 + 0x9F) ⊎ (0xEE * 64 + 0x80 ≤ a * 64 + lo))
Opens (suc (suc n)) a lo hi =
    (n ≡ 0) × (0xF0 ≤ a) × (a ≤ 0xF4) × (0x80 ≤ lo) × (hi ≤ 0xBF) × (0xF0 * 64 + 0x90 ≤ a * 64 + lo) × (a * 64 + hi ≤ 0xF4 * 64 + 0x8F)

within : (lo hi b : ℕ) → (leb lo b && leb b hi) ≡ true → (lo ≤ b) × (b ≤ hi)
within lo hi b e = (leb-true lo b (and_left (leb lo b) (leb b hi) e), leb-true b hi (and_right (leb lo b) (leb b hi) e))

-- what holds of every row holds of the row of a
first_cases : (P : Utf → Type 0) (a : ℕ) → (a ≤ 0x7F → P whole) → ((n lo hi : ℕ) → Opens n a lo hi → P (needs n lo hi)) → P ill → P (first a)
unfolding first
first_cases P a one more none =
    picked P (leb a 0x7F) (λ e. one (leb-true a 0x7F e)) λ e₁.
    picked P (leb 0xC2 a && leb a 0xDF) (λ e. let r = within 0xC2 0xDF a e in more 0 0x80 0xBF (omega arith)) λ e₂.
    picked P (eqb a 0xE0) (λ e. let r = eqb-true a 0xE0 e in more 1 0xA0 0xBF (omega arith, inl (omega arith))) λ e₃.
    picked P (eqb a 0xED) (λ e. let r = eqb-true a 0xED e in more 1 0x80 _ (omega arith, inl (omega arith))) λ e₄.
    picked P (leb 0xE1 a && leb a 0xEF)
    (λ e. let r = within 0xE1 0xEF a e in let q = eqb-false a 0xED e₄ in more 1 0x80 0xBF (omega arith, split a 0xED (λ k. inl (omega arith)) (λ k. inr (omega arith)))) λ e₅.
    picked P (eqb a 0xF0) (λ e. let r = eqb-true a 0xF0 e in more 2 0x90 0xBF (omega arith)) λ e₆.
    picked P (leb 0xF1 a && leb a 0xF3) (λ e. let r = within 0xF1 0xF3 a e in more 2 0x80 0xBF (omega arith)) λ e₇.
    picked P (eqb a 0xF4) (λ e. let r = eqb-true a 0xF4 e in more 2 0x80 0x8F (omega arith)) (λ e₈. none)

ill-whole : ill ≡ whole → ⊥
ill-whole e = let z : ◌≡◌ {A = ℕ} 0 1 = cc in omega arith

never_whole : (s : List ℕ) → utf ill s ≡ whole → ⊥
never_whole s h = ill-whole (sym (utf-ill s) ∙ h)

-- a text that brings the machine between two characters starts with the byte that the machine needs
record More (n lo hi : ℕ) (s : List ℕ) : Type 0 where
  byte : ℕ
  rest : List ℕ
  same : byte ∷ rest ≡ s
  range : (lo ≤ byte) × (byte ≤ hi)
  next : utf (tails n) rest ≡ whole

more : (n lo hi : ℕ) (s : List ℕ) → utf (needs n lo hi) s ≡ whole → More n lo hi s
unfolding utf utf_step
more n lo hi [] h = absurd (let z : ◌≡◌ {A = ℕ} 0 1 = cc in omega arith)
more n lo hi (b ∷ s) h = go (leb lo b && leb b hi) refl
  where
    go : (t : Bool) → (leb lo b && leb b hi) ≡ t → More n lo hi (b ∷ s)
    go true e = record { byte = b; rest = s; same = refl; range = within lo hi b e; next = simp e at h }
    go false e = absurd (never_whole s (simp e at h))

is-scalar : (c : ℕ) → (c < 0xD800) ⊎ ((0xE000 ≤ c) × (c < 0x110000)) → scalar c ≡ true
is-scalar c (inl h) = simp (lt-ltb c 0xD800 h)
is-scalar c (inr h) = simp (le-leb 0xE000 c h.0, lt-ltb c 0x110000 h.1, or-true)

-- RFC 3629, 3: the rows of `encode`, by the bytes; what is added to c are their marks, C0 80, E0 80 80 and F0 80 80 80 hex, in steps of 64
encode_one : (c : ℕ) → c < 0x80 → encode c ≡ c ∷ []
unfolding encode
encode_one c h = simp (lt-ltb c 0x80 h)

encode-two : (c a b : ℕ) → 0x80 ≤ c → c < 0x800 → c + 0x3080 ≡ a * 64 + b → Tail b → encode c ≡ a ∷ b ∷ []
unfolding encode
encode-two c a b l m e h =
    let p : 0xC0 + c / 64 ≡ a = omega arith in
    let q : 0x80 + c % 64 ≡ b = omega arith in
    simp (le-ltb c 0x80 l, lt-ltb c 0x800 m, p, q)

encode_three : (c a b d : ℕ) → 0x800 ≤ c → c < 0x10000 → c + 0xE2080 ≡ (a * 64 + b) * 64 + d → Tail b → Tail d → encode c ≡ a ∷ b ∷ d ∷ []
unfolding encode
encode_three c a b d l m e h k =
    let p : 0xE0 + c / 4096 ≡ a = omega arith in
    let q : 0x80 + c / 64 % 64 ≡ b = omega arith in
    let r : 0x80 + c % 64 ≡ d = omega arith in
    simp (le-ltb c 0x80 (omega arith), le-ltb c 0x800 l, lt-ltb c 0x10000 m, p, q, r)

encode-four : (c a b d f : ℕ) → 0x10000 ≤ c → c + 0x3C82080 ≡ ((a * 64 + b) * 64 + d) * 64 + f → Tail b → Tail d → Tail f → encode c ≡ a ∷ b ∷ d ∷ f ∷ []
unfolding encode
encode-four c a b d f l e h k j =
    let p : 0xF0 + c / 262144 ≡ a = omega arith in
    let q : 0x80 + c / 4096 % 64 ≡ b = omega arith in
    let r : 0x80 + c / 64 % 64 ≡ d = omega arith in
    let t : 0x80 + c % 64 ≡ f = omega arith in
    simp (le-ltb c 0x80 (omega arith), le-ltb c 0x800 (omega arith), le-ltb c 0x10000 l, p, q, r, t)

-- a text that starts with the bytes of a scalar value, with UTF-8 after them
record Char (s : List ℕ) : Type 0 where
  code : ℕ
  is : scalar code ≡ true
  rest : List ℕ
  same : encode code ++ rest ≡ s
  next : utf whole rest ≡ whole
  shorter : length rest < length s

char_of : (c a : ℕ) (x rest s : List ℕ) → scalar c ≡ true → encode c ≡ a ∷ x → x ++ rest ≡ s → utf whole rest ≡ whole → Char (a ∷ s)
char_of c a x rest s i e f n = record {
  code = c;
  is = i;
  rest = rest;
  same = rw e (ap (λ (y : List ℕ). a ∷ y) f);
  next = n;
  shorter = omega (arith, simp length-append at (ap length f));
}

-- the character at the front, by its first byte's row
opened : (n a lo hi : ℕ) (s : List ℕ) → Opens n a lo hi → utf (needs n lo hi) s ≡ whole → Char (a ∷ s)
opened zero a lo hi s o h =
    let m = more 0 lo hi s h in
    let c = a * 64 + m.byte - 0x3080 in
    let i : c < 0xD800 = omega arith in
    let e = encode-two c a m.byte (omega arith) (omega arith) (omega arith) (omega arith) in
    char_of c a _ m.rest s (is-scalar c (inl i)) e m.same m.next
opened (suc zero) a lo hi s o h =
    let m = more 1 lo hi s h in
    let k = more 0 0x80 0xBF m.rest m.next in
    let c = (a * 64 + m.byte) * 64 + k.byte - 0xE2080 in
    let e = encode_three c a m.byte k.byte (omega arith) (omega arith) (omega arith) (omega arith) (omega arith) in
    let i : (c < 0xD800) ⊎ ((0xE000 ≤ c) × (c < 0x110000)) = ⊎_elim (λ w. inl (omega arith)) (λ w. inr (omega arith)) o.1 in
    char_of c a _ k.rest s (is-scalar c i) e (ap (λ (y : List ℕ). m.byte ∷ y) k.same ∙ m.same) k.next
opened (suc (suc n)) a lo hi s o h =
    let m = more 2 lo hi s (rw o.0 at h) in
    let k = more 1 0x80 0xBF m.rest m.next in
    let j = more 0 0x80 0xBF k.rest k.next in
    let c = ((a * 64 + m.byte) * 64 + k.byte) * 64 + j.byte - 0x3C82080 in
    let e = encode-four c a m.byte k.byte j.byte (omega arith) (omega arith) (omega arith) (omega arith) (omega arith) in
    char_of c a _ j.rest s (is-scalar c (inr (omega arith))) e (ap (λ (y : List ℕ). m.byte ∷ y) (ap (λ (y : List ℕ). k.byte ∷ y) j.same ∙ k.same) ∙ m.same) j.next

char : (a : ℕ) (s : List ℕ) → utf whole (a ∷ s) ≡ whole → Char (a ∷ s)
unfolding utf utf_step
char a s = first_cases (λ (u : Utf). utf u s ≡ whole → Char (a ∷ s)) a one (λ n lo hi. opened n a lo hi s) (λ h. absurd (never_whole s h))
  where
    one : a ≤ 0x7F → utf whole s ≡ whole → Char (a ∷ s)
    one l h = char_of a a [] s s (is-scalar a (inl (omega arith))) (encode_one a (omega arith)) refl h

-- a text as the encoding of scalar values
pub record Decoded (s : List ℕ) : Type 0 where
  pub chars : List ℕ
  pub scalars : All (λ (c : ℕ). scalar c ≡ true) chars
  pub same : encode_all chars ≡ s

-- every text of UTF-8 is the encoding of some scalar values
pub decoded : (s : List ℕ) → utf8 s ≡ true → Decoded s
unfolding concat
decoded s h = go (length s) s (le_refl (length s)) (utf8-whole s h)
  where
    none : Decoded []
    none = record { chars = []; scalars = tt; same = refl }

    go : (n : ℕ) (s : List ℕ) → length s ≤ n → utf whole s ≡ whole → Decoded s
    go zero [] l h = none
    go zero (a ∷ s) l h = absurd (not-suc-le-zero l)
    go (suc n) [] l h = none
    go (suc n) (a ∷ s) l h =
        let c = char a s h in
        let d = go n c.rest (omega (arith, c.shorter)) c.next in
        record { chars = c.code ∷ d.chars; scalars = (c.is, d.scalars); same = rw d.same c.same }

-- ASCII within a text

-- in the middle of a character the machine takes no byte of ASCII
abbrev Sound : Utf → Type 0
Sound whole = Unit
Sound (needs n lo hi) = 0x80 ≤ lo
Sound ill = Unit

sound_opens : (n a lo hi : ℕ) → Opens n a lo hi → 0x80 ≤ lo
sound_opens zero a lo hi o = omega arith
sound_opens (suc zero) a lo hi o = omega arith
sound_opens (suc (suc n)) a lo hi o = omega arith

sound-tails : (n : ℕ) → Sound (tails n)
sound-tails zero = tt
sound-tails (suc n) = omega arith

sound_step : (u : Utf) (b : ℕ) → Sound (utf_step u b)
unfolding utf_step
sound_step whole b = first_cases Sound b (λ _. tt) (λ n lo hi. sound_opens n b lo hi) tt
sound_step (needs n lo hi) b = picked Sound (leb lo b && leb b hi) (λ _. sound-tails n) (λ _. tt)
sound_step ill b = tt

sound : (u : Utf) → Sound u → (s : List ℕ) → Sound (utf u s)
unfolding utf
sound u h [] = h
sound u h (b ∷ s) = sound (utf_step u b) (sound_step u b) s

-- a byte of ASCII is a character by itself: a text is UTF-8 where what stands before the byte is, and what stands after it
pub utf8-cut : (x : List ℕ) (b : ℕ) (y : List ℕ) → Ascii b → utf8 (x ++ b ∷ y) ≡ (utf8 x && utf8 y)
unfolding utf8 utf utf_step
utf8-cut x b y h = ap is_whole (utf-append whole x (b ∷ y)) ∙ go (utf whole x) (sound whole tt x)
  where
    go : (u : Utf) → Sound u → is_whole (utf (utf_step u b) y) ≡ (is_whole u && utf8 y)
    go whole s = simp (ascii-first b h)
    go (needs n lo hi) s = simp (lt-leb lo b (omega arith), utf-ill)
    go ill s = simp utf-ill

-- after a text that is not UTF-8 a byte of ASCII, and whatever follows it, lengthens no well-formed start
pub longest-cut : (x : List ℕ) (b : ℕ) (y : List ℕ) → Ascii b → utf8 x ≡ false → longest (x ++ b ∷ y) ≡ longest x
longest-cut x b y a h =
    let s = x ++ b ∷ y in
    let n = length-append x (b ∷ y) in
    let w = longest-within x in
    let v = longest-within s in
    let inside : longest s ≤ length x = split (length x) (longest s) (λ l. absurd (false≢true (sym h ∙ beyond (longest s) l v (longest-is s)))) (λ l. l) in
    let front : (k : ℕ) → k ≤ length x → take k s ≡ take k x = λ k l. take-append-le k x (b ∷ y) l in
    let more = longest_most s (longest x) (omega arith) (ap utf8 (front (longest x) w) ∙ longest-is x) in
    let less = longest_most x (longest s) inside (sym (ap utf8 (front (longest s) inside)) ∙ longest-is s) in
    omega arith
  where
    beyond : (k : ℕ) → length x < k → k ≤ length (x ++ b ∷ y) → utf8 (take k (x ++ b ∷ y)) ≡ true → utf8 x ≡ true
    beyond k l m e =
        let j = k - length x - 1 in
        let q : k ≡ length x + suc j = omega arith in
        let t : take k (x ++ b ∷ y) ≡ x ++ b ∷ take j y = ap (λ (i : ℕ). take i (x ++ b ∷ y)) q ∙ take-append-add x (b ∷ y) (suc j) in
        and_left (utf8 x) _ (sym (utf8-cut x b (take j y) a) ∙ ap utf8 (sym t) ∙ e)
