-- Laws of the blocks of sixteen characters: in which a character stands, and between which lines its own is. (02: N3) Assumes nothing.
use Prim.Native.Nat.{ℕ, ◌+◌, ◌-◌, ◌*◌, ◌/◌, ◌<◌, ◌≤◌, min}
use native.Mathlib.Omega.{arith}
use mathlib.Core.Path.{◌≡◌, refl, sym, ◌∙◌}
use mathlib.Core.Bool.{true, false≢true}
use mathlib.Core.List.{List, [], ◌∷◌}
use lib.Dec.{eqb, leb, ltb}
use lib.ListN.{get_or}
use borrow.Author.Tests.{ltb-true, leb-true, lt-ltb, le-ltb, lt-leb, le-leb}
use Rattle.lin_spec.proofs.Base.{picked, split, all_below, below, same_below}
use Rattle.accents.specs.Table.{Mapping, mapping_table}
use Rattle.accents.specs.Mapping.{char_of}
use Rattle.accents.specs.Lines.{near, lines_below, block_begin, InBlock, blocks}
use Rattle.accents.proofs.LineLaws.{place_most, lines}

-- Where lines are

pub near_from : (c : ℕ) → near c ≡ true → 0xC0 ≤ c
unfolding near
near_from c h =
    split c 0xC0
    (λ l.
    let a : c < 0x340 = omega arith in
    let b : c < 0x1E00 = omega arith in
    absurd (false≢true (sym (simp (lt-leb 0xC0 c l, lt-leb 0x340 c a, lt-leb 0x1E00 c b)) ∙ h)))
    (λ l. l)

pub near_low : (c : ℕ) → near c ≡ true → c < 0x1E00 → c ≤ 0x344
unfolding near
near_low c h k =
    split 0x344 c
    (λ l.
    let a : 0x233 < c = omega arith in
    absurd (false≢true (sym (simp (le-leb 0xC0 c (omega arith), le-leb 0x340 c (omega arith), lt-leb c 0x233 a, lt-leb c 0x344 l, lt-leb 0x1E00 c k)) ∙ h)))
    (λ l. l)

pub near_high : (c : ℕ) → near c ≡ true → c ≤ 0x1EF9
unfolding near
near_high c h =
    split 0x1EF9 c
    (λ l.
    let a : 0x233 < c = omega arith in
    let b : 0x344 < c = omega arith in
    absurd (false≢true (sym (simp (le-leb 0xC0 c (omega arith), le-leb 0x340 c (omega arith), le-leb 0x1E00 c (omega arith), lt-leb c 0x233 a, lt-leb c 0x344 b, lt-leb c 0x1EF9 l)) ∙ h)))
    (λ l. l)

-- The block of a character

begin_low : (k : ℕ) → k < 41 → block_begin k ≡ 16 * (k + 12)
begin_low k h = simp (lt-ltb k 41 h)

begin_high : (k : ℕ) → 41 ≤ k → block_begin k ≡ 16 * (k + 439)
begin_high k h = simp (le-ltb k 41 h)

pub low_block : (c : ℕ) → near c ≡ true → c < 0x1E00 → InBlock c (c / 16 - 12)
low_block c h l =
    let a = near_from c h in
    let b = near_low c h l in
    let k : c / 16 - 12 < 41 = omega arith in
    record {
      within = omega arith;
      from = omega (arith, begin_low (c / 16 - 12) k, a);
      before =
          split (c / 16 - 12 + 1) 41
          (λ q. omega (arith, begin_low (c / 16 - 12 + 1) q, a))
          (λ q. omega (arith, begin_high (c / 16 - 12 + 1) q, a, b));
    }

pub high_block : (c : ℕ) → near c ≡ true → 0x1E00 ≤ c → InBlock c (c / 16 - 439)
high_block c h l =
    let b = near_high c h in
    let k : 41 ≤ c / 16 - 439 = omega arith in
    record {
      within = omega arith;
      from = omega (arith, begin_high (c / 16 - 439) k);
      before = omega (arith, begin_high (c / 16 - 439 + 1) (omega arith));
    }

-- The lines of a block

-- no fewer lines are for characters below a later one
pub lines_rise : (t : List Mapping) (c d : ℕ) → c ≤ d → lines_below t c ≤ lines_below t d
unfolding lines_below
lines_rise [] c d h = omega arith
lines_rise (m ∷ t) c d h =
    picked (λ (n : ℕ). n ≤ lines_below (m ∷ t) d) (ltb (char_of m) c)
    (λ e. let k : char_of m < d = omega (arith, ltb-true (char_of m) c e) in simp (lt-ltb (char_of m) d k) (omega (arith, lines_rise t c d h)))
    (λ e. omega arith)

blocks_told : all_below (λ (k : ℕ). eqb (get_or blocks k 0) (lines_below mapping_table (block_begin k))) 57 ≡ true
unfolding all_below blocks lines_below mapping_table
blocks_told = refl

pub blocks-are : (k : ℕ) → k < 57 → (get_or blocks k 0 ≡ lines_below mapping_table (block_begin k)) × (get_or blocks k 0 ≤ 501)
blocks-are k h =
    let e = same_below (λ (j : ℕ). get_or blocks j 0) (λ (j : ℕ). lines_below mapping_table (block_begin j)) 57 blocks_told k h in
    (e, omega (arith, e, place_most mapping_table (block_begin k), lines))

-- a block has at most a line for each of its characters
blocks_few : all_below (λ (k : ℕ). leb (lines_below mapping_table (block_begin (k + 1))) (lines_below mapping_table (block_begin k) + 16)) 57 ≡ true
unfolding all_below lines_below mapping_table
blocks_few = refl

-- the line of a character is not before its block's first, and not more than sixteen lines on
pub line_in : (c k : ℕ) → InBlock c k → (low : ℕ) → low ≡ lines_below mapping_table (block_begin k) → (low ≤ lines_below mapping_table c) × (lines_below mapping_table c ≤ min (low + 16) 501)
line_in c k b low p =
    let few = leb-true _ _ (below (λ (j : ℕ). leb (lines_below mapping_table (block_begin (j + 1))) (lines_below mapping_table (block_begin j) + 16)) 57 blocks_few k b.within) in (
      omega (arith, p, lines_rise mapping_table (block_begin k) c b.from),
      omega (arith, p, few, lines_rise mapping_table c (block_begin (k + 1)) (omega (arith, b.before)), place_most mapping_table c, lines),
    )
