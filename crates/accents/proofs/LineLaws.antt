-- Laws of the table in lines and numbers: what a search by halves goes by, and what the line that it finds says. (02: N3) Assumes nothing.
use Prim.Native.Nat.{ℕ, zero, suc, ◌+◌, ◌-◌, ◌*◌, ◌/◌, ◌%◌, ◌<◌, ◌≤◌}
use native.Mathlib.Nat.{not-suc-le-zero, le_of_suc-le-suc}
use native.Mathlib.Omega.{arith}
use mathlib.Core.Path.{◌≡◌, refl, ap, sym, ◌∙◌}
use mathlib.Core.Bool.{Bool, true, false, ◌&&◌, false≢true}
use mathlib.Core.List.{List, [], ◌∷◌}
use lib.Dec.{eqb, ltb}
use lib.ListN.{length, take, drop, get_or, length-take, length-drop}
use Rattle.std.specs.List.Sorted.{IsPartitionPoint, IsPartitionedBy, IsNonDecreasingBy}
use Rattle.std.proofs.lemmas.List.{get_or-take, get_or-drop}
use Rattle.std.proofs.lemmas.List.Sorted.{IsNonDecreasingBy-from_default, IsPartitionedBy-ltb}
use borrow.Author.Tests.{eq-eqb, ne_eqb, ltb-true, ltb-false, lt-ltb, le-ltb, lt-leb}
use Rattle.lin_spec.specs.Base.{pick, All, all, eq_all, eq_list}
use Rattle.lin_spec.proofs.Base.{and_left, and_right, picked, split, eq_list_lem, all-at}
use Rattle.accents.specs.Table.{Mapping, mapping_table}
use Rattle.accents.specs.Table.Mapping.{one}
use Rattle.accents.specs.Mapping.{char_of, given, lookup, map_once, rising, in_ranges}
use Rattle.accents.specs.Lines.{first_given, second_given, line_word, table_words, near, mapping_at, lines_below}
use Rattle.accents.proofs.MappingLaws.{Plain, table_rises, at_each, each_settles}

-- The number of a line

word-is : (t : List Mapping) (i : ℕ) → i < length t → get_or (table_words t) i 0 ≡ line_word (mapping_at t i)
unfolding table_words
word-is [] i h = absurd (not-suc-le-zero h)
word-is (m ∷ t) zero h = refl
word-is (m ∷ t) (suc i) h = word-is t i (le_of_suc-le-suc h)

words-length : (t : List Mapping) → length (table_words t) ≡ length t
unfolding table_words
words-length [] = refl
words-length (m ∷ t) = omega (arith, words-length t)

-- its parts, where each fits 16 bits
char_part : (c a b : ℕ) → a < 65536 → b < 65536 → (c * 4294967296 + a * 65536 + b) / 4294967296 ≡ c
char_part c a b h k = omega arith

first_part : (c a b : ℕ) → a < 65536 → b < 65536 → (c * 4294967296 + a * 65536 + b) / 65536 % 65536 ≡ a
first_part c a b h k = omega arith

second-part : (c a b : ℕ) → b < 65536 → (c * 4294967296 + a * 65536 + b) % 65536 ≡ b
second-part c a b k = omega arith

-- The place of a character

pub place_most : (t : List Mapping) (c : ℕ) → lines_below t c ≤ length t
unfolding lines_below
place_most [] c = omega arith
place_most (m ∷ t) c = picked (λ (n : ℕ). n ≤ suc (length t)) (ltb (char_of m) c) (λ _. omega (arith, place_most t c)) (λ _. omega arith)

-- a line that is not for a character below c is not before the place
place-before : (t : List Mapping) (c i : ℕ) → i < length t → c ≤ char_of (mapping_at t i) → lines_below t c ≤ i
unfolding lines_below
place-before [] c i h k = absurd (not-suc-le-zero h)
place-before (m ∷ t) c zero h k = simp (le-ltb (char_of m) c k) (omega arith)
place-before (m ∷ t) c (suc i) h k = picked (λ (n : ℕ). n ≤ suc i) (ltb (char_of m) c) (λ _. omega (arith, place-before t c i (le_of_suc-le-suc h) k)) (λ _. omega arith)

-- lines that rise
rises_rest : (m : Mapping) (t : List Mapping) → rising (m ∷ t) ≡ true → rising t ≡ true
unfolding rising
rises_rest m [] h = refl
rises_rest m (n ∷ t) h = and_right (ltb (char_of m) (char_of n)) (rising (n ∷ t)) h

rises_first : (m n : Mapping) (t : List Mapping) → rising (m ∷ n ∷ t) ≡ true → char_of m < char_of n
unfolding rising
rises_first m n t h = ltb-true (char_of m) (char_of n) (and_left (ltb (char_of m) (char_of n)) (rising (n ∷ t)) h)

rises_at : (m : Mapping) (t : List Mapping) (i : ℕ) → rising (m ∷ t) ≡ true → i < length t → char_of m < char_of (mapping_at t i)
rises_at m [] i h k = absurd (not-suc-le-zero k)
rises_at m (n ∷ t) zero h k = rises_first m n t h
rises_at m (n ∷ t) (suc i) h k = omega (arith, rises_first m n t h, rises_at n t i (rises_rest m (n ∷ t) h) (le_of_suc-le-suc k))

rises_two : (t : List Mapping) (i j : ℕ) → rising t ≡ true → i < j → j < length t → char_of (mapping_at t i) < char_of (mapping_at t j)
rises_two [] i j r l h = absurd (not-suc-le-zero h)
rises_two (m ∷ t) i zero r l h = absurd (not-suc-le-zero l)
rises_two (m ∷ t) zero (suc j) r l h = rises_at m t j r (le_of_suc-le-suc h)
rises_two (m ∷ t) (suc i) (suc j) r l h = rises_two t i j (rises_rest m t r) (le_of_suc-le-suc l) (le_of_suc-le-suc h)

-- a line for a character below c is before the place
place_after : (t : List Mapping) (c i : ℕ) → rising t ≡ true → i < length t → char_of (mapping_at t i) < c → i < lines_below t c
unfolding lines_below
place_after [] c i r h k = absurd (not-suc-le-zero h)
place_after (m ∷ t) c zero r h k = simp (lt-ltb (char_of m) c k) (omega arith)
place_after (m ∷ t) c (suc i) r h k =
    let l = le_of_suc-le-suc h in
    let f : char_of m < c = omega (arith, rises_at m t i r l) in
    simp (lt-ltb (char_of m) c f) (omega (arith, place_after t c i (rises_rest m t r) l k))

-- What the place says

-- the line there is for c
lookup-there : (t : List Mapping) (c i : ℕ) → i ≡ lines_below t c → i < length t → char_of (mapping_at t i) ≡ c → lookup t c ≡ given (mapping_at t i)
unfolding lines_below lookup
lookup-there [] c i e h k = absurd (not-suc-le-zero h)
lookup-there (m ∷ t) c zero e h k = simp (eq-eqb (char_of m) c k)
lookup-there (m ∷ t) c (suc i) e h k = go (ltb (char_of m) c) refl e (λ f. lookup-there t c i f (le_of_suc-le-suc h) k)
  where
    go : (b : Bool) → ltb (char_of m) c ≡ b → suc i ≡ pick b (suc (lines_below t c)) 0 → (i ≡ lines_below t c → lookup t c ≡ given (mapping_at t i)) → pick (eqb (char_of m) c) (given m) (lookup t c) ≡ given (mapping_at t i)
    go true f e ih =
        let l = ltb-true (char_of m) c f in
        let n : char_of m ≡ c → ⊥ = λ d. omega arith in
        simp (ne_eqb (char_of m) c n, ih (omega arith))
    go false f e ih = absurd (omega arith)

-- no line is for c
lookup-none : (t : List Mapping) (c : ℕ) → ((i : ℕ) → i < length t → char_of (mapping_at t i) ≡ c → ⊥) → lookup t c ≡ c ∷ []
unfolding lookup
lookup-none [] c h = refl
lookup-none (m ∷ t) c h = simp (ne_eqb (char_of m) c (h 0 (omega arith)), lookup-none t c (λ i k. h (suc i) (omega arith)))

-- The table

pub lines : length mapping_table ≡ 501
unfolding mapping_table
lines = refl

-- the numbers of a line are those that it gives: no second is 0 where there are two
fits_given : Mapping → Bool
fits_given m = eq_list (given m) (pick (eqb (second_given m) 0) (first_given m ∷ []) (first_given m ∷ second_given m ∷ []))

table-given : all fits_given mapping_table ≡ true
unfolding mapping_table all fits_given eq_all
table-given = refl

-- the lines are for characters of their runs, by one test of the table
table-near : all (λ (m : Mapping). near (char_of m)) mapping_table ≡ true
unfolding mapping_table all near
table-near = refl

-- what a line gives fits 16 bits
narrow : Mapping → Bool
narrow m = ltb (first_given m) 65536 && ltb (second_given m) 65536

table_narrow : all narrow mapping_table ≡ true
unfolding mapping_table all narrow
table_narrow = refl

-- The rule at any line: its character is below those of the lines after it, and to what it gives no mapping applies after it is mapped once
pub record LineRule (i : ℕ) : Type 0 where
  pub rises : (j : ℕ) → i < j → j < length mapping_table → char_of (mapping_at mapping_table i) < char_of (mapping_at mapping_table j)
  pub ends : All Plain (map_once (given (mapping_at mapping_table i)))

pub table-line : (i : ℕ) → i < length mapping_table → LineRule i
table-line i h = record {
  rises = λ j l k. rises_two mapping_table i j table_rises l k;
  ends = all-at (λ (m : Mapping). All Plain (map_once (given m))) mapping_table i (one 0 0) each_settles h;
}

-- a test that all lines pass, at any line
each_line : (f : Mapping → Bool) → all f mapping_table ≡ true → (i : ℕ) → i < length mapping_table → f (mapping_at mapping_table i) ≡ true
each_line f h i k = all-at (λ (m : Mapping). f m ≡ true) mapping_table i (one 0 0) (at_each f mapping_table h) k

-- "for U+00C0 to U+024F, U+0300 to U+036F and U+1E00 to U+1EFF": every other character is mapped to itself
table_ranges : all (λ (m : Mapping). in_ranges (char_of m)) mapping_table ≡ true
unfolding mapping_table all in_ranges
table_ranges = refl

pub outside_ranges : (c : ℕ) → in_ranges c ≡ false → lookup mapping_table c ≡ c ∷ []
outside_ranges c h = lookup-none mapping_table c (λ j k f. false≢true (sym h ∙ ap in_ranges (sym f) ∙ each_line (λ (m : Mapping). in_ranges (char_of m)) table_ranges j k))

-- Steps of the code, over the numbers w of the table

module _ (w : List ℕ) (e : w ≡ table_words mapping_table) (c i x : ℕ) (d : x ≡ get_or w i 0 / 4294967296) (h : i < 501) where
  within : i < length mapping_table
  within = omega (arith, lines)

  there : get_or w i 0 ≡ line_word (mapping_at mapping_table i)
  there = ap (λ (l : List ℕ). get_or l i 0) e ∙ word-is mapping_table i within

  fits : (first_given (mapping_at mapping_table i) < 65536) × (second_given (mapping_at mapping_table i) < 65536)
  unfolding narrow
  fits =
      let n = each_line narrow table_narrow i within in
      (ltb-true (first_given (mapping_at mapping_table i)) 65536 (and_left (ltb (first_given (mapping_at mapping_table i)) 65536) (ltb (second_given (mapping_at mapping_table i)) 65536) n), ltb-true (second_given (mapping_at mapping_table i)) 65536 (and_right (ltb (first_given (mapping_at mapping_table i)) 65536) (ltb (second_given (mapping_at mapping_table i)) 65536) n))

  char_is : x ≡ char_of (mapping_at mapping_table i)
  char_is = d ∙ ap (λ (v : ℕ). v / 4294967296) there ∙ char_part (char_of (mapping_at mapping_table i)) (first_given (mapping_at mapping_table i)) (second_given (mapping_at mapping_table i)) fits.0 fits.1

  go_up : x < c → i + 1 ≤ lines_below mapping_table c
  go_up l = omega (arith, place_after mapping_table c i table_rises within (omega (arith, char_is)))

  go_down : c ≤ x → lines_below mapping_table c ≤ i
  go_down l = place-before mapping_table c i within (omega (arith, char_is))

  -- the line at the place is for another character: none is for c
  pub other-there : i ≡ lines_below mapping_table c → (x ≡ c → ⊥) → c ∷ [] ≡ lookup mapping_table c
  other-there p n = sym (lookup-none mapping_table c none)
    where
      none : (j : ℕ) → j < length mapping_table → char_of (mapping_at mapping_table j) ≡ c → ⊥
      none j k f =
          split j i (λ l. omega (arith, place-before mapping_table c j k (omega arith)))
          (λ g.
          split i j (λ l. omega (arith, place_after mapping_table c i table_rises within (omega (arith, rises_two mapping_table i j table_rises l k))))
          (λ l.
          let b : j ≡ i = omega arith in
          n (char_is ∙ ap (λ (r : ℕ). char_of (mapping_at mapping_table r)) (sym b) ∙ f)))

  -- it is for c
  module _ (p : i ≡ lines_below mapping_table c) (f : x ≡ c) (a b : ℕ) (u : a ≡ get_or w i 0 / 65536 % 65536) (v : b ≡ get_or w i 0 % 65536) where
    found : pick (eqb b 0) (a ∷ []) (a ∷ b ∷ []) ≡ lookup mapping_table c
    unfolding fits_given
    found =
        let y : a ≡ first_given (mapping_at mapping_table i) = u ∙ ap (λ (n : ℕ). n / 65536 % 65536) there ∙ first_part (char_of (mapping_at mapping_table i)) (first_given (mapping_at mapping_table i)) (second_given (mapping_at mapping_table i)) fits.0 fits.1 in
        let z : b ≡ second_given (mapping_at mapping_table i) = v ∙ ap (λ (n : ℕ). n % 65536) there ∙ second-part (char_of (mapping_at mapping_table i)) (first_given (mapping_at mapping_table i)) (second_given (mapping_at mapping_table i)) fits.1 in
        let g = eq_list_lem _ _ (each_line fits_given table-given i within) in
        rw (y, z) (sym g ∙ sym (lookup-there mapping_table c i p within (sym char_is ∙ f)))

    pub one-there : b ≡ 0 → a ∷ [] ≡ lookup mapping_table c
    one-there q = sym (simp (eq-eqb b 0 q)) ∙ found

    pub two-there : (b ≡ 0 → ⊥) → a ∷ b ∷ [] ≡ lookup mapping_table c
    two-there q = sym (simp (ne_eqb b 0 q)) ∙ found

-- past the last line none is for c
pub past-lines : (c i : ℕ) → i ≡ lines_below mapping_table c → 501 ≤ i → c ∷ [] ≡ lookup mapping_table c
past-lines c i p h = sym (lookup-none mapping_table c (λ j k f. omega (arith, place-before mapping_table c j k (omega arith), lines)))

-- and none is for a character outside of the runs
pub outside_lines : (c : ℕ) → near c ≡ false → c ∷ [] ≡ lookup mapping_table c
outside_lines c h =
    sym
    (lookup-none mapping_table c
    (λ j k f. false≢true (sym h ∙ ap near (sym f) ∙ each_line (λ (m : Mapping). near (char_of m)) table-near j k)))

-- as is one below C0 hex
pub below_lines : (c : ℕ) → c < 0xC0 → c ∷ [] ≡ lookup mapping_table c
unfolding near
below_lines c h =
    let a : c < 0x340 = omega arith in
    let b : c < 0x1E00 = omega arith in
    outside_lines c (simp (lt-leb 0xC0 c h, lt-leb 0x340 c a, lt-leb 0x1E00 c b))

-- The numbers rise, so a search by halves finds the first line that is not for a character below c, in any part that has it or ends at it

module _ (w : List ℕ) (e : w ≡ table_words mapping_table) (low high : ℕ) (ends : high ≤ 501) where
  abbrev part : List ℕ
  part = take (high - low) (drop low w)

  all-words : length w ≡ 501
  all-words = ap length e ∙ words-length mapping_table ∙ lines

  pub part-long : low ≤ high → length part ≡ high - low
  part-long b = omega (arith, length-take (high - low) (drop low w), length-drop low w, all-words)

  part-at : (i : ℕ) → i < length part → get_or part i 0 ≡ get_or w (low + i) 0
  part-at i h = get_or-take (high - low) (drop low w) i 0 (omega (arith, length-take (high - low) (drop low w))) ∙ get_or-drop low w i 0

  part_ends : (i : ℕ) → i < length part → low + i < 501
  part_ends i h = omega (arith, length-take (high - low) (drop low w), length-drop low w, all-words)

  part-rises : IsNonDecreasingBy (λ v. v / 4294967296) part
  part-rises = IsNonDecreasingBy-from_default (λ v. v / 4294967296) part 0 (λ i j h l. split i j (λ k. more i j k l) (λ k. let d : i ≡ j = omega arith in rw d (omega arith)))
    where
      more : (i j : ℕ) → i < j → j < length part → get_or part i 0 / 4294967296 ≤ get_or part j 0 / 4294967296
      more i j k l =
          let i-in : i < length part = omega arith in
          let a = char_is w e 0 (low + i) _ refl (part_ends i i-in) in
          let b = char_is w e 0 (low + j) _ refl (part_ends j l) in
          let r = rises_two mapping_table (low + i) (low + j) table_rises (omega arith) (omega (arith, part_ends j l, lines)) in
          rw (part-at i i-in, part-at j l) (omega (arith, a, b, r))

  pub halves : (c : ℕ) → IsPartitionedBy (λ v. ltb (v / 4294967296) c) part
  halves c = IsPartitionedBy-ltb (λ v. v / 4294967296) part c part-rises

  pub halved : (c i : ℕ) → low ≤ lines_below mapping_table c → lines_below mapping_table c ≤ high → i ≤ length part
      → IsPartitionPoint (λ v. ltb (v / 4294967296) c ≡ true) (λ v. ltb (v / 4294967296) c ≡ false) part i → low + i ≡ lines_below mapping_table c
  halved c i from to h p =
      let n = lines_below mapping_table c in
      let j = n - low in
      let long = part-long (omega arith) in
      split i j
      (λ l.
      let k : i < length part = omega (arith, long) in
      let d = go_down w e c (low + i) _ refl (part_ends i k) (rw (part-at i k) at (ltb-false (get_or part i 0 / 4294967296) c (p.1 i 0 (omega arith) k))) in
      absurd (omega arith))
      (λ k.
      split j i
      (λ l.
      let q : j < length part = omega arith in
      let u = go_up w e c (low + j) _ refl (part_ends j q) (rw (part-at j q) at (ltb-true (get_or part j 0 / 4294967296) c (p.0 j 0 (omega arith) l))) in
      absurd (omega arith))
      (λ l. omega arith))
