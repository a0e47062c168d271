-- Laws of UTF-8 that the code's steps rest on: bytes are passed from place to place, a character is read byte by byte, a first byte is looked up.
-- (01: Eight refusals, 2 and 6)
-- Assumes nothing.
use Prim.Native.Nat.{ℕ, zero, suc, ◌+◌, ◌-◌, ◌≤◌, ◌<◌, zero-le}
use native.Mathlib.Nat.{not-suc-le-zero, le_of_suc-le-suc}
use native.Mathlib.Numerals.{add-one}
use native.Mathlib.Omega.{arith}
use mathlib.Core.Path.{◌≡◌, refl, ap, sym, ◌∙◌}
use mathlib.Core.Bool.{Bool, true, false, ◌&&◌, ◌||◌}
use mathlib.Core.List.{List, [], ◌∷◌}
use lib.ListN.{length, get_or, take, drop, length-drop, drop_of_length-le}
use lib.Seq.{take-suc, take_all, drop-cons, drop-drop}
use lib.Dec.{T, eqb, leb, ltb, ltb→lt}
use borrow.Author.Tests.{leb-true}
use Rattle.lin_spec.specs.Base.{pick}
use Rattle.lin_spec.specs.Utf8.{Utf, first, tails, utf_step, utf, is_whole, utf8, reach, longest}
use Rattle.lin_spec.specs.Utf8.Utf.{whole, needs, ill}
use Rattle.lin_spec.proofs.Base.{and_left, and_right, all_below, same_below}
use Rattle.lin_spec.proofs.Utf8.{utf-append, whole-utf8, utf8-ascii, utf8-longest, longest-within, longest-after}
use Rattle.text.specs.Utf8.{bytes_of, low_of, high_of, Front, Past}

-- From place to place

-- no byte is passed
pub past-here : (s : List ℕ) (i : ℕ) → Past s i i
past-here s i = record { order = omega arith; after = refl }

-- first some bytes are passed, then more
pub past_then : (s : List ℕ) (a b d : ℕ) → Past s a b → Past s b d → Past s a d
past_then s a b d h k = record { order = omega arith; after = h.after ∙ k.after }

-- whole characters are passed
past-front : (s : List ℕ) (i n : ℕ) → Front (drop i s) n → Past s i (i + n)
past-front s i n h = record { order = omega arith; after = omega (arith, h.after, ap longest (drop-drop n i s)) }

front-none : (t : List ℕ) → longest t ≡ 0 → Front t 0
front-none t h = record { within = zero-le; after = omega arith; none = λ _. h }

front-some : (t : List ℕ) (n : ℕ) → 0 < n → n ≤ length t → utf8 (take n t) ≡ true → Front t n
front-some t n p l h = record { within = l; after = longest-after n t l h; none = λ e. absurd (omega arith) }

-- a byte of ASCII is passed after others
pub past_next : (s : List ℕ) (a i : ℕ) → Past s a i → i < length s → get_or s i 0 ≤ 0x7F → Past s a (i + 1)
past_next s a i p h k = past_then s a i (i + 1) p (past-front s i 1 (rw (drop-cons s i 0 h) one))
  where
    one : Front (get_or s i 0 ∷ drop (suc i) s) 1
    one = front-some (get_or s i 0 ∷ drop (suc i) s) 1 (omega arith) (omega arith) (utf8-ascii (get_or s i 0 ∷ []) (k, tt))

abbrev pub is_ascii : (s : List ℕ) (i : ℕ) → Bool
is_ascii s i = leb (get_or s i 0) 0x7F

-- sixteen bytes are passed, each by its test
pub sixteen_past : (s : List ℕ) (i : ℕ) → i + 16 ≤ length s
    → (is_ascii s i && is_ascii s (i + 1) && is_ascii s (i + 2) && is_ascii s (i + 3) && is_ascii s (i + 4) && is_ascii s (i + 5) && is_ascii s (i + 6) && is_ascii s (i + 7) && is_ascii s (i + 8) && is_ascii s (i + 9) && is_ascii s (i + 10) && is_ascii s (i + 11) && is_ascii s (i + 12) && is_ascii s (i + 13) && is_ascii s (i + 14) && is_ascii s (i + 15)) ≡ true
    → Past s i (i + 16)
sixteen_past s i h e = to 15 tt (to 14 tt (to 13 tt (to 12 tt (to 11 tt (to 10 tt (to 9 tt (to 8 tt (to 7 tt (to 6 tt (to 5 tt (to 4 tt (to 3 tt (to 2 tt (to 1 tt one)))))))))))))) e
  where
    one : is_ascii s i ≡ true → Past s i (i + 1)
    one f = past_next s i i (past-here s i) (omega arith) (leb-true (get_or s i 0) 0x7F f)

    to : (k : ℕ) → T (ltb k 16) → {t : Bool} → (t ≡ true → Past s i (i + k)) → (t && is_ascii s (i + k)) ≡ true → Past s i (i + suc k)
    to k l {t} f e =
        let b = leb-true (get_or s (i + k) 0) 0x7F (and_right t (is_ascii s (i + k)) e) in
        let d : i + suc k ≡ i + k + 1 = omega arith in
        let m = ltb→lt k 16 l in
        rw d (past_next s i (i + k) (f (and_left t (is_ascii s (i + k)) e)) (omega arith) b)

-- the end of the text is the end of its longest start, where it is reached
pub past_end : (s : List ℕ) (i : ℕ) → Past s 0 i → length s ≤ i → i ≡ longest s
unfolding longest reach
past_end s i p h =
    let z : longest (drop i s) ≡ 0 = rw (drop_of_length-le s h) in
    omega (arith, p.after)

-- what the code hands over as the rest from i on
pub rest : (s : List ℕ) (i : ℕ) → take (length s - i) (drop i s) ≡ drop i s
rest s i = take_all (length s - i) (drop i s) (rw length-drop (omega arith))

module _ (s : List ℕ) (i n : ℕ) (f : Front (take (length s - i) (drop i s)) n) where
  here : Front (drop i s) n
  here = rw (rest s i) at f

  -- a place that has no character is the end of the longest start, where it is reached
  pub char_none : Past s 0 i → n ≡ 0 → i ≡ longest s
  char_none p e = omega (arith, p.after, here.none e)

-- the whole text is UTF-8 where its longest start is as long
pub all-utf8 : (s : List ℕ) (n : ℕ) → n ≡ longest s → eqb n (length s) ≡ utf8 s
all-utf8 s n e = ap (λ (k : ℕ). eqb k (length s)) e ∙ sym (utf8-longest s)

-- A character, byte by byte

-- the test of a byte that the machine needs
abbrev pub in_range : (lo hi b : ℕ) → Bool
in_range lo hi b = leb lo b && leb b hi

step_in : (n lo hi b : ℕ) → in_range lo hi b ≡ true → utf_step (needs n lo hi) b ≡ tails n
unfolding utf_step
step_in n lo hi b e = simp e

step_out : (n lo hi b : ℕ) → in_range lo hi b ≡ false → utf_step (needs n lo hi) b ≡ ill
unfolding utf_step
step_out n lo hi b e = simp e

-- where neither this byte nor a later one brings the machine between characters
reach-none : (u v : Utf) (b : ℕ) (s : List ℕ) → utf_step u b ≡ v → is_whole v ≡ false → reach v s ≡ 0 → reach u (b ∷ s) ≡ 0
unfolding reach
reach-none u v b s e h k = simp (e, h, k)

reach-ill : (s : List ℕ) → reach ill s ≡ 0
unfolding reach utf_step
reach-ill [] = refl
reach-ill (b ∷ s) = reach-none ill ill b s refl refl (reach-ill s)

-- fewer bytes than the machine needs
reach-short : (n lo hi : ℕ) (s : List ℕ) → length s ≤ n → reach (needs n lo hi) s ≡ 0
unfolding reach
reach-short n lo hi [] h = refl
reach-short zero lo hi (b ∷ s) h = absurd (not-suc-le-zero h)
reach-short (suc n) lo hi (b ∷ s) h = go (in_range lo hi b) refl (reach-short n 0x80 0xBF s (le_of_suc-le-suc h))
  where
    go : (t : Bool) → in_range lo hi b ≡ t → reach (needs n 0x80 0xBF) s ≡ 0 → reach (needs (suc n) lo hi) (b ∷ s) ≡ 0
    go true e ih = reach-none _ _ b s (step_in (suc n) lo hi b e) refl ih
    go false e ih = reach-none _ _ b s (step_out (suc n) lo hi b e) refl (reach-ill s)

-- after i bytes of t, none of them the end of a character, the machine needs a byte from lo to hi and n more
pub record Along (t : List ℕ) (i n lo hi : ℕ) : Type 0 where
  stands : utf whole (take i t) ≡ needs n lo hi
  left : reach (needs n lo hi) (drop i t) ≡ 0 → longest t ≡ 0

-- the machine after one byte more
stands_next : (t : List ℕ) (i : ℕ) (u : Utf) → i < length t → utf whole (take i t) ≡ u → utf whole (take (suc i) t) ≡ utf_step u (get_or t i 0)
unfolding utf
stands_next t i u h e = rw (take-suc t i 0 h, utf-append, e)

along_next : (t : List ℕ) (i n lo hi : ℕ) → Along t i (suc n) lo hi → i < length t → in_range lo hi (get_or t i 0) ≡ true → Along t (suc i) n 0x80 0xBF
along_next t i n lo hi a h e = record {
  stands = stands_next t i _ h a.stands ∙ step_in (suc n) lo hi (get_or t i 0) e;
  left = λ k. a.left (rw (drop-cons t i 0 h) (reach-none _ _ _ _ (step_in (suc n) lo hi (get_or t i 0) e) refl k));
}

along_out : (t : List ℕ) (i n lo hi : ℕ) → Along t i n lo hi → i < length t → in_range lo hi (get_or t i 0) ≡ false → longest t ≡ 0
along_out t i n lo hi a h e = a.left (rw (drop-cons t i 0 h) (reach-none _ _ _ _ (step_out n lo hi (get_or t i 0) e) refl (reach-ill _)))

along_last : (t : List ℕ) (i lo hi : ℕ) → Along t i 0 lo hi → i < length t → in_range lo hi (get_or t i 0) ≡ true → utf8 (take (suc i) t) ≡ true
along_last t i lo hi a h e = whole-utf8 (take (suc i) t) (stands_next t i _ h a.stands ∙ step_in 0 lo hi (get_or t i 0) e)

-- what the number of bytes says of the machine
no_bytes : (u : Utf) → bytes_of u ≡ 0 → u ≡ ill
no_bytes whole e = absurd (omega arith)
no_bytes (needs n lo hi) e = absurd (omega arith)
no_bytes ill e = refl

one_byte : (u : Utf) → bytes_of u ≡ 1 → u ≡ whole
one_byte whole e = refl
one_byte (needs n lo hi) e = absurd (omega arith)
one_byte ill e = absurd (omega arith)

more_bytes : (u : Utf) (m : ℕ) → bytes_of u ≡ 2 + m → u ≡ needs m (low_of u) (high_of u)
more_bytes whole m e = absurd (omega arith)
more_bytes (needs n lo hi) m e = ap (λ (k : ℕ). needs k lo hi) (omega arith)
more_bytes ill m e = absurd (omega arith)

-- t starts with a character of n bytes so far as k of them say: the next is to be from lo to hi, or there is none left
pub record Seen (t : List ℕ) (n lo hi k : ℕ) : Type 0 where
  more : (m : ℕ) → n ≡ suc k + m → Along t k m lo hi
  pub done : n ≤ k → Front t n

-- nothing at all
pub seen_nothing : (t : List ℕ) → length t ≡ 0 → Front t 0
seen_nothing t h = front-none t (omega (arith, longest-within t))

-- a first byte with none to follow
alone : (b : ℕ) (s : List ℕ) (n : ℕ) → n ≡ bytes_of (first b) → n ≤ 1 → Front (b ∷ s) n
unfolding utf utf_step longest
alone b s zero e l = front-none (b ∷ s) (reach-none whole ill b s (no_bytes (first b) (sym e)) refl (reach-ill s))
alone b s (suc zero) e l = front-some (b ∷ s) 1 (omega arith) (omega arith) (whole-utf8 (b ∷ []) (one_byte (first b) (sym e)))
alone b s (suc (suc n)) e l = absurd (omega arith)

-- the first byte
pub seen_first : (t : List ℕ) (n lo hi : ℕ) → (length t ≡ 0 → ⊥)
    → n ≡ bytes_of (first (get_or t 0 0)) → lo ≡ low_of (first (get_or t 0 0)) → hi ≡ high_of (first (get_or t 0 0)) → Seen t n lo hi 1
unfolding utf utf_step longest
seen_first [] n lo hi h e l m = absurd (h refl)
seen_first (b ∷ s) n lo hi h e l m = record { more = more; done = alone b s n e }
  where
    more : (k : ℕ) → n ≡ 2 + k → Along (b ∷ s) 1 k lo hi
    more k d =
        let u : first b ≡ needs k lo hi = rw (l, m) (more_bytes (first b) k (sym e ∙ d)) in
        record { stands = u; left = λ z. reach-none whole _ b s u refl z }

-- too few bytes
pub seen_short : (t : List ℕ) (n : ℕ) → (length t ≡ 0 → ⊥) → n ≡ bytes_of (first (get_or t 0 0)) → length t < n → Front t 0
seen_short t n h e l =
    let a = (seen_first t n _ _ h e refl refl).more (n - 2) (omega arith) in
    let f : length (drop 1 t) ≤ n - 2 = rw length-drop (omega arith) in
    front-none t (a.left (reach-short (n - 2) _ _ (drop 1 t) f))

module _ (t : List ℕ) (n lo hi k : ℕ) (a : Seen t n lo hi k) (l : k < n) (m : n ≤ length t) (r : Bool) (e : r ≡ in_range lo hi (get_or t k 0)) where
  -- a byte that is out of its range
  pub seen_out : r ≡ false → Front t 0
  seen_out f = front-none t (along_out t k (n - suc k) lo hi (a.more (n - suc k) (omega arith)) (omega arith) (sym e ∙ f))

  -- a byte in its range
  pub seen_next : r ≡ true → Seen t n 0x80 0xBF (k + 1)
  seen_next f =
      let h : k < length t = omega arith in
      let i : in_range lo hi (get_or t k 0) ≡ true = sym e ∙ f in
      rw add-one (record {
        more = λ j d. along_next t k j lo hi (a.more (suc j) (omega arith)) h i;
        done = λ d.
            let s : n ≡ suc k = omega arith in
            rw s (front-some t (suc k) (omega arith) (omega arith) (along_last t k lo hi (a.more 0 (omega arith)) h i));
      })

-- What a first byte says, by a test of the 256 bytes

-- as the code tests it
abbrev pub width_by : ℕ → ℕ
width_by a = pick (leb a 0x7F) 1 (pick (ltb a 0xC2 || ltb 0xF4 a) 0 (pick (leb a 0xDF) 2 (pick (leb a 0xEF) 3 4)))

abbrev pub low_by : ℕ → ℕ
low_by a = pick (eqb a 0xE0) 0xA0 (pick (eqb a 0xF0) 0x90 0x80)

abbrev pub high_by : ℕ → ℕ
high_by a = pick (eqb a 0xED) 0x9F (pick (eqb a 0xF4) 0x8F 0xBF)

-- the code's tests say how many bytes a character has
pub width_is : (a n : ℕ) → a < 256 → width_by a ≡ n → n ≡ bytes_of (first a)
unfolding all_below first
width_is a n h e = sym (same_below (λ (b : ℕ). bytes_of (first b)) width_by 256 refl a h ∙ e)

-- and what its second byte may be: at least
pub low_is : (a n : ℕ) → a < 256 → low_by a ≡ n → n ≡ low_of (first a)
unfolding all_below first
low_is a n h e = sym (same_below (λ (b : ℕ). low_of (first b)) low_by 256 refl a h ∙ e)

-- and at most
pub high_is : (a n : ℕ) → a < 256 → high_by a ≡ n → n ≡ high_of (first a)
unfolding all_below first
high_is a n h e = sym (same_below (λ (b : ℕ). high_of (first b)) high_by 256 refl a h ∙ e)
