-- Texts of UTF-8 are told by their characters, and a name of ASCII is the same as no other: so it is compared by its bytes. (02: N3) Assumes nothing.
use Prim.Native.Nat.{ℕ, zero, suc, ◌<◌}
use native.Mathlib.Omega.{arith}
use mathlib.Core.Path.{◌≡◌, refl, ap, sym, subst, ◌∙◌}
use mathlib.Core.Bool.{Bool, true, false, ◌&&◌, ◌||◌}
use mathlib.Core.List.{List, [], ◌∷◌}
use lib.Dec.{leb, ltb}
use borrow.Author.Tests.{ltb-true, leb-true}
use Rattle.lin_spec.specs.Base.{All, all}
use Rattle.lin_spec.specs.Utf8.{utf8, encode_all, scalar}
use Rattle.lin_spec.proofs.Base.{and_right, picked}
use Rattle.lin_spec.proofs.Accepted.{all_left, all_right}
use Rattle.lin_spec.proofs.Utf8.{decoded}
use Rattle.accents.specs.Table.{Mapping, mapping_table}
use Rattle.accents.specs.Table.Mapping.{one, two}
use Rattle.accents.specs.Mapping.{given, lookup, map_once, map_times, mapped}
use Rattle.accents.specs.Ordering.{goes_before, insert, order, FitsBefore, InOrder, canonical}
use Rattle.accents.specs.Chars.{chars_after, chars}
use Rattle.accents.proofs.MappingLaws.{at_each, lookup_cases, fixed_times}
use Rattle.accents.proofs.OrderingLaws.{lower-not, ordered_stays}
use Rattle.accents.proofs.ClassLaws.{class_below}
use Rattle.accents.proofs.LineLaws.{below_lines}
use Rattle.accents.proofs.FullLaws.{last_of}
use Rattle.accents.proofs.CharLaws.{front-one, chars-encode}

-- The characters tell the bytes

scalar_most : (c : ℕ) → scalar c ≡ true → c < 0x110000
scalar_most c h = go (ltb c 0xD800) refl h
  where
    go : (t : Bool) → ltb c 0xD800 ≡ t → (t || (leb 0xE000 c && ltb c 0x110000)) ≡ true → c < 0x110000
    go true e h = omega (arith, ltb-true c 0xD800 e)
    go false e h = ltb-true c 0x110000 (and_right (leb 0xE000 c) (ltb c 0x110000) h)

pub scalars_most : (cs : List ℕ) → All (λ (c : ℕ). scalar c ≡ true) cs → All (λ (c : ℕ). c < 0x110000) cs
scalars_most [] h = tt
scalars_most (c ∷ cs) h = (scalar_most c h.0, scalars_most cs h.1)

-- a text of UTF-8 is the encoding of its characters
pub encode-chars : (s : List ℕ) → utf8 s ≡ true → encode_all (chars s) ≡ s
encode-chars s h =
    let d = decoded s h in
    ap (λ (t : List ℕ). encode_all (chars t)) (sym d.same) ∙ ap encode_all (chars-encode d.chars (scalars_most d.chars d.scalars)) ∙ d.same

-- so two with the same characters are the same
pub chars-same : (x y : List ℕ) → utf8 x ≡ true → utf8 y ≡ true → chars x ≡ chars y → x ≡ y
chars-same x y h k e = sym (encode-chars x h) ∙ ap encode_all e ∙ encode-chars y k

-- ASCII

abbrev pub Small : ℕ → Type 0
Small c = c < 0x80

pub chars-small : (s : List ℕ) → All Small s → chars s ≡ s
unfolding chars_after
chars-small [] h = refl
chars-small (c ∷ s) h = front-one c s h.0 ∙ ap (λ (l : List ℕ). c ∷ l) (chars-small s h.1)

small_once : (s : List ℕ) → All Small s → map_once s ≡ s
unfolding map_once
small_once [] h = refl
small_once (c ∷ s) h = let l : c < 0xC0 = omega (arith, h.0) in simp (sym (below_lines c l), small_once s h.1)

small_fits : (c : ℕ) (t : List ℕ) → Small c → FitsBefore c t
small_fits c [] h = tt
small_fits c (d ∷ t) h = lower-not c d (omega (arith, class_below c (omega arith)))

small_ordered : (s : List ℕ) → All Small s → InOrder s
small_ordered [] h = tt
small_ordered (c ∷ s) h = (small_fits c s h.0, small_ordered s h.1)

-- a text of ASCII stays, mapped and ordered
pub small-mapped : (s : List ℕ) → All Small s → mapped s ≡ s
unfolding mapped
small-mapped s h = fixed_times _ s (small_once s h)

pub small-stays : (s : List ℕ) → All Small s → canonical s ≡ s
unfolding canonical
small-stays s h = ap order (small-mapped s h) ∙ ordered_stays s (small_ordered s h)

-- the last that a line gives is not of ASCII, by one test of the table
table-past : all (λ (m : Mapping). leb 0x80 (last_of m)) mapping_table ≡ true
unfolding mapping_table all last_of
table-past = refl

line-past : (c : ℕ) (m : Mapping) → leb 0x80 (last_of m) ≡ true → All Small (given m) → Small c
unfolding last_of
line-past c (one k a) h s = absurd (omega (arith, leb-true 0x80 a h, s.0))
line-past c (two k a b) h s = absurd (omega (arith, leb-true 0x80 b h, s.1.0))

lines-past : (c : ℕ) (t : List Mapping) → All (λ (m : Mapping). leb 0x80 (last_of m) ≡ true) t → All (λ (m : Mapping). All Small (given m) → Small c) t
lines-past c [] h = tt
lines-past c (m ∷ t) h = (line-past c m h.0, lines-past c t h.1)

-- what is mapped to ASCII is ASCII
small-before : (c : ℕ) → All Small (lookup mapping_table c) → Small c
small-before c =
    lookup_cases (λ (s : List ℕ). All Small s → Small c) c mapping_table (λ _ h. h.0)
    (lines-past c mapping_table (at_each (λ (m : Mapping). leb 0x80 (last_of m)) mapping_table table-past))

once_before : (s : List ℕ) → All Small (map_once s) → All Small s
unfolding map_once
once_before [] h = tt
once_before (c ∷ s) h = (small-before c (all_left Small (lookup mapping_table c) (map_once s) h), once_before s (all_right Small (lookup mapping_table c) (map_once s) h))

times_before : (n : ℕ) (s : List ℕ) → All Small (map_times n s) → All Small s
unfolding map_times
times_before zero s h = h
times_before (suc n) s h = once_before s (times_before n (map_once s) h)

insert-before : (c : ℕ) (t : List ℕ) → All Small (insert c t) → Small c × All Small t
unfolding insert
insert-before c [] h = (h.0, tt)
insert-before c (d ∷ t) h =
    picked (λ (s : List ℕ). All Small s → Small c × All Small (d ∷ t)) (goes_before c d)
    (λ _ k. let r = insert-before c t k.1 in (r.0, (k.0, r.1)))
    (λ _ k. (k.0, k.1))
    h

order-before : (s : List ℕ) → All Small (order s) → All Small s
unfolding order
order-before [] h = tt
order-before (c ∷ s) h = let r = insert-before c (order s) h in (r.0, order-before s r.1)

-- a text of ASCII has no other text's form
pub small_alone : (x y : List ℕ) → All Small x → canonical y ≡ canonical x → y ≡ x
unfolding canonical mapped
small_alone x y h e =
    let f : canonical y ≡ x = e ∙ small-stays x h in
    let k : All Small y = times_before _ y (order-before (mapped y) (subst (All Small) (sym f) h)) in
    sym (small-stays y k) ∙ f

-- a name of ASCII is the same as a name of UTF-8 exactly when the bytes are the same
pub ascii-bytes : (x y : List ℕ) → All Small x → utf8 x ≡ true → utf8 y ≡ true → canonical (chars y) ≡ canonical (chars x) → y ≡ x
ascii-bytes x y h u v e =
    chars-same y x v u (small_alone (chars x) (chars y) (subst (All Small) (sym (chars-small x h)) h) e)
