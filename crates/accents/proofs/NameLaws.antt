-- Sameness of names is an equivalence; names with the same bytes are the same, and a name of ASCII is the same as no other; how many places a name takes.
-- (02: N3) Assumes nothing.
use Prim.Native.Nat.{ℕ, ◌*◌, ◌≤◌}
use native.Mathlib.Omega.{arith}
use mathlib.Core.Path.{◌≡◌, refl, ap, subst, sym, ◌∙◌}
use mathlib.Core.Bool.{Bool, true, false}
use mathlib.Core.List.{List, [], ◌∷◌}
use lib.ListN.{length, length-append}
use lib.Dec.{ltb}
use borrow.Author.Tests.{ltb-true, lt-ltb, le-ltb}
use Rattle.lin_spec.specs.Base.{All, all, concat, eq_list}
use Rattle.lin_spec.specs.Utf8.{utf8, encode, encode_all}
use Rattle.lin_spec.proofs.Base.{and_left, and_right, list_eq, eq_list_lem, split}
use Rattle.accents.specs.Mapping.{map_once, map_times, mapped}
use Rattle.accents.specs.Ordering.{canonical}
use Rattle.accents.specs.Chars.{chars}
use Rattle.accents.specs.Names.{same_name, places, only_ascii}
use Rattle.accents.proofs.AsciiLaws.{Small, encode-chars, small-mapped, ascii-bytes}
use Rattle.accents.proofs.FullLaws.{mapped_three}
use Rattle.accents.proofs.MappingLaws.{mapped-append}
use Rattle.accents.proofs.OrderingLaws.{order-length}
use Rattle.accents.proofs.MarkLaws.{length_differs}

-- "exactly when the results are equal"
pub same_means : (a b : List ℕ) → same_name a b ≡ true → canonical (chars a) ≡ canonical (chars b)
unfolding same_name
same_means a b h = eq_list_lem (canonical (chars a)) (canonical (chars b)) h

pub means_same : (a b : List ℕ) → canonical (chars a) ≡ canonical (chars b) → same_name a b ≡ true
unfolding same_name
means_same a b e = rw e (list_eq (canonical (chars b)))

-- Sameness is an equivalence

-- names with the same bytes are the same
pub same_self : (a : List ℕ) → same_name a a ≡ true
same_self a = means_same a a refl

pub same-sym : (a b : List ℕ) → same_name a b ≡ true → same_name b a ≡ true
same-sym a b h = means_same b a (sym (same_means a b h))

pub same_trans : (a b c : List ℕ) → same_name a b ≡ true → same_name b c ≡ true → same_name a c ≡ true
same_trans a b c h k = means_same a c (same_means a b h ∙ same_means b c k)

-- so the same names are found for two that are the same
pub same_alike : (a b x : List ℕ) → same_name a b ≡ true → same_name x a ≡ same_name x b
unfolding same_name
same_alike a b x h = ap (λ (l : List ℕ). eq_list (canonical (chars x)) l) (same_means a b h)

-- and they are mapped to as many characters
pub same-places : (a b : List ℕ) → same_name a b ≡ true → places a ≡ places b
unfolding places canonical
same-places a b h = sym (order-length (mapped (chars a))) ∙ ap length (same_means a b h) ∙ order-length (mapped (chars b))

-- A name of ASCII is the same as a name of UTF-8 exactly when the bytes are the same
small_bytes : (s : List ℕ) → only_ascii s ≡ true → All Small s
unfolding only_ascii all
small_bytes [] h = tt
small_bytes (b ∷ s) h = (ltb-true b 0x80 (and_left (ltb b 0x80) (only_ascii s) h), small_bytes s (and_right (ltb b 0x80) (only_ascii s) h))

pub ascii-same : (a b : List ℕ) → only_ascii b ≡ true → utf8 a ≡ true → utf8 b ≡ true → same_name a b ≡ eq_list a b
ascii-same a b o u v = go (eq_list a b) refl (same_name a b) refl
  where
    go : (t : Bool) → eq_list a b ≡ t → (r : Bool) → same_name a b ≡ r → r ≡ t
    go true e r f = sym f ∙ rw (eq_list_lem a b e) (same_self b)
    go false e false f = refl
    go false e true f = sym (sym e ∙ rw (ascii-bytes b a (small_bytes b o) v u (same_means a b f)) (list_eq b))

-- Names of different numbers of mapped characters are not the same
pub places_differ : (a b : List ℕ) → (places a ≡ places b → ⊥) → false ≡ same_name a b
unfolding same_name places canonical
places_differ a b h = length_differs (mapped (chars a)) (mapped (chars b)) h

-- A name of n bytes is mapped to n + n / 2 characters at the most

char_most : (c : ℕ) → 2 * length (mapped (c ∷ [])) ≤ 3 * length (encode c)
unfolding encode
char_most c =
    split c 0x80 (λ l. let e = ap length (small-mapped (c ∷ []) (l, tt)) in simp (lt-ltb c 0x80 l) (omega arith))
    (λ g.
    let m = mapped_three c in
    split c 0x800 (λ l. simp (le-ltb c 0x80 g, lt-ltb c 0x800 l) (omega arith))
    (λ k.
    split c 0x10000 (λ l. simp (le-ltb c 0x80 g, le-ltb c 0x800 k, lt-ltb c 0x10000 l) (omega arith))
    (λ n. simp (le-ltb c 0x80 g, le-ltb c 0x800 k, le-ltb c 0x10000 n) (omega arith))))

chars_most : (cs : List ℕ) → 2 * length (mapped cs) ≤ 3 * length (encode_all cs)
unfolding concat mapped map_times map_once
chars_most [] = omega arith
chars_most (c ∷ cs) =
    let a = ap length (mapped-append (c ∷ []) cs) ∙ length-append (mapped (c ∷ [])) (mapped cs) in
    let b = length-append (encode c) (encode_all cs) in
    omega (arith, a, b, char_most c, chars_most cs)

pub places_most : (a : List ℕ) → utf8 a ≡ true → 2 * places a ≤ 3 * length a
unfolding places
places_most a h = subst (λ (s : List ℕ). 2 * length (mapped (chars a)) ≤ 3 * length s) (encode-chars a h) (chars_most (chars a))
