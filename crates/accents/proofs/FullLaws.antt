-- Laws of the code that maps a character until no mapping applies, and of how many characters a text is mapped to. (02: N3) Assumes nothing.
use Prim.Native.Nat.{ℕ, ◌+◌, ◌*◌, ◌≤◌}
use native.Mathlib.Omega.{arith}
use mathlib.Core.Path.{◌≡◌, refl, ap, subst, sym, ◌∙◌}
use mathlib.Core.Bool.{true, false, not}
use mathlib.Core.List.{List, [], ◌∷◌, ◌++◌, append-nil}
use lib.ListN.{length, drop, length-append, length-take, drop_of_length-le}
use borrow.Author.Tests.{not-true}
use Rattle.lin_spec.specs.Base.{All, all, any}
use Rattle.lin_spec.proofs.Base.{every}
use Rattle.accents.specs.Table.{Mapping, mapping_table}
use Rattle.accents.specs.Table.Mapping.{one, two}
use Rattle.accents.specs.Mapping.{given, lookup, applies, map_once, map_times, mapped}
use Rattle.accents.specs.Lines.{EndsPlain, answered, FullIs}
use Rattle.accents.specs.Chars.{chars_after, chars, CharAt}
use Rattle.accents.specs.Names.{places}
use Rattle.accents.specs.declared.full.Full.{Full}
use Rattle.accents.specs.declared.lookup.Mapped.{Mapped}
use Rattle.accents.specs.declared.lookup.Mapped.TheVariants.{Itself, One, Two}
use Rattle.accents.proofs.MappingLaws.{at_each, lookup_cases, lookup-plain, char_ends, until_none, mapped-append}

-- the last that a line gives
unfoldable pub last_of : Mapping → ℕ
last_of (one c a) = a
last_of (two c a b) = b

-- no mapping applies to the last that a line gives, by one test of the table
table-last : all (λ (m : Mapping). not (applies mapping_table (last_of m))) mapping_table ≡ true
unfolding mapping_table all applies any last_of
table-last = refl

ends-plain : (m : Mapping) → applies mapping_table (last_of m) ≡ false → EndsPlain (given m)
unfolding last_of
ends-plain (one c a) h = h
ends-plain (two c a b) h = h

lines_end : (t : List Mapping) → All (λ (m : Mapping). not (applies mapping_table (last_of m)) ≡ true) t → All (λ (m : Mapping). EndsPlain (given m)) t
lines_end [] h = tt
lines_end (m ∷ t) h = (ends-plain m (not-true (applies mapping_table (last_of m)) h.0), lines_end t h.1)

-- nor to the last that any character is mapped to
last-plain : (c : ℕ) → EndsPlain (lookup mapping_table c)
last-plain c = lookup_cases EndsPlain c mapping_table (λ h. h) (lines_end mapping_table (at_each (λ (m : Mapping). not (applies mapping_table (last_of m))) mapping_table table-last))

mapped-one : (c : ℕ) → mapped (c ∷ []) ≡ map_once (lookup mapping_table c)
unfolding map_times map_once
mapped-one c =
    let e : map_times 2 (c ∷ []) ≡ map_once (lookup mapping_table c) = ap map_once (append-nil (lookup mapping_table c)) in
    sym (until_none 2 (c ∷ []) (rw e (char_ends c))) ∙ e

-- the last stays, and what stands before it is mapped
once_last : (a : ℕ) → applies mapping_table a ≡ false → map_once (a ∷ []) ≡ a ∷ []
unfolding map_once
once_last a h = append-nil (lookup mapping_table a) ∙ lookup-plain a mapping_table h

once_two : (a b : ℕ) → applies mapping_table b ≡ false → map_once (a ∷ b ∷ []) ≡ lookup mapping_table a ++ b ∷ []
unfolding map_once
once_two a b h = ap (λ (l : List ℕ). lookup mapping_table a ++ l) (once_last b h)

-- a character is mapped to three at the most
line-two : (m : Mapping) → length (given m) ≤ 2
line-two (one c a) = omega arith
line-two (two c a b) = omega arith

lookup-two : (c : ℕ) → length (lookup mapping_table c) ≤ 2
lookup-two c = lookup_cases (λ (s : List ℕ). length s ≤ 2) c mapping_table (λ _. omega arith) (every (λ (m : Mapping). length (given m) ≤ 2) line-two mapping_table)

once_three : (s : List ℕ) → length s ≤ 2 → EndsPlain s → length (map_once s) ≤ 3
unfolding map_once
once_three [] h p = omega arith
once_three (a ∷ []) h p = rw (once_last a p) (omega arith)
once_three (a ∷ b ∷ []) h p = rw (once_two a b p, length-append (lookup mapping_table a) (b ∷ [])) (omega (arith, lookup-two a))
once_three (a ∷ b ∷ d ∷ s) h p = absurd (omega arith)

pub mapped_three : (c : ℕ) → length (mapped (c ∷ [])) ≤ 3
mapped_three c = rw (mapped-one c) (once_three (lookup mapping_table c) (lookup-two c) (last-plain c))

-- what an answer says
known : (c : ℕ) (r v : Mapped) → answered c r ≡ lookup mapping_table c → r ≡ v → lookup mapping_table c ≡ answered c v
known c r v e f = sym e ∙ ap (answered c) f

module _ (c : ℕ) (r : Mapped) (e : answered c r ≡ lookup mapping_table c) where
  pub full_itself : r ≡ Itself → FullIs c (record { count = 1; first = c; second = 0; third = 0 })
  unfolding map_once
  full_itself f =
      let l = known c r Itself e f in
      record { are = sym (mapped-one c ∙ ap map_once l ∙ append-nil (lookup mapping_table c) ∙ l); some = omega arith; few = omega arith }

  pub full-one : (a : ℕ) → r ≡ One a → FullIs c (record { count = 1; first = a; second = 0; third = 0 })
  full-one a f =
      let l = known c r (One a) e f in
      let p : applies mapping_table a ≡ false = subst EndsPlain l (last-plain c) in
      record { are = sym (mapped-one c ∙ ap map_once l ∙ once_last a p); some = omega arith; few = omega arith }

  module _ (a b : ℕ) (f : r ≡ Two a b) (q : Mapped) (d : answered a q ≡ lookup mapping_table a) where
    over : mapped (c ∷ []) ≡ lookup mapping_table a ++ b ∷ []
    over =
        let l = known c r (Two a b) e f in
        let p : applies mapping_table b ≡ false = subst EndsPlain l (last-plain c) in
        mapped-one c ∙ ap map_once l ∙ once_two a b p

    further : (v : Mapped) → q ≡ v → answered a v ++ b ∷ [] ≡ mapped (c ∷ [])
    further v g = sym (over ∙ ap (λ (l : List ℕ). l ++ b ∷ []) (known a q v d g))

    pub full-two : q ≡ Itself → FullIs c (record { count = 2; first = a; second = b; third = 0 })
    full-two g = record { are = further Itself g; some = omega arith; few = omega arith }

    pub full-two-one : (x : ℕ) → q ≡ One x → FullIs c (record { count = 2; first = x; second = b; third = 0 })
    full-two-one x g = record { are = further (One x) g; some = omega arith; few = omega arith }

    pub full_three : (x y : ℕ) → q ≡ Two x y → FullIs c (record { count = 3; first = x; second = y; third = b })
    full_three x y g = record { are = further (Two x y) g; some = omega arith; few = omega arith }

-- How many

full-count : (c : ℕ) (f : Full) → FullIs c f → length (mapped (c ∷ [])) ≡ f.count
full-count c f h = ap length (sym h.are) ∙ simp length-take (omega (arith, h.few))

-- n are counted, those of the text up to i
pub record Counted (s : List ℕ) (n i : ℕ) : Type 0 where
  sum : n + length (mapped (chars (drop i s))) ≡ length (mapped (chars s))
  pub most : n ≤ 3 * i

pub count-start : (s : List ℕ) → Counted s 0 0
count-start s = record { sum = omega arith; most = omega arith }

pub count_next : (s : List ℕ) (n i c next : ℕ) (f : Full) → Counted s n i → CharAt s i c next → FullIs c f → Counted s (n + f.count) next
count_next s n i c next f k a h =
    let e : length (mapped (chars (drop i s))) ≡ length (mapped (c ∷ [])) + length (mapped (chars (drop next s))) = ap (λ (l : List ℕ). length (mapped l)) a.here ∙ ap length (mapped-append (c ∷ []) (chars (drop next s))) ∙ length-append (mapped (c ∷ [])) (mapped (chars (drop next s))) in
    record { sum = omega (arith, k.sum, e, full-count c f h); most = omega (arith, k.most, h.few, a.on) }

pub count-end : (s : List ℕ) (n i : ℕ) → Counted s n i → length s ≤ i → n ≡ places s
unfolding places chars_after mapped map_times map_once
count-end s n i k h =
    let z : length (mapped (chars (drop i s))) ≡ 0 = rw (drop_of_length-le s h) in
    omega (arith, k.sum, z)
