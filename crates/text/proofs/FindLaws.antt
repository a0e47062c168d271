-- Laws of the search for a byte: bytes that are not c are passed. (01: Tokens)
-- Assumes nothing.
use Prim.Native.Nat.{ℕ, suc, ◌+◌, ◌≤◌}
use native.Mathlib.Omega.{arith}
use mathlib.Core.Path.{◌≡◌, sym, ◌∙◌}
use mathlib.Core.Bool.{Bool, true, ◌&&◌, not}
use mathlib.Core.List.{List}
use lib.ListN.{length, get_or}
use lib.Dec.{T, eqb, ltb, ltb→lt}
use borrow.Author.Tests.{eqb-false, not-true}
use Rattle.lin_spec.specs.Cursor.{find_from}
use Rattle.lin_spec.proofs.Base.{and_left, and_right}
use Rattle.lin_spec.proofs.Cursor.{find-here, find-next}
use Rattle.text.specs.Find.{Without}

abbrev pub other : (s : List ℕ) (c i : ℕ) → Bool
other s c i = not (eqb (get_or s i 0) c)

-- sixteen bytes are passed, each by its test
pub sixteen_without_lem : (s : List ℕ) (c i : ℕ) → i + 16 ≤ length s
    → (other s c i && other s c (i + 1) && other s c (i + 2) && other s c (i + 3) && other s c (i + 4) && other s c (i + 5) && other s c (i + 6) && other s c (i + 7) && other s c (i + 8) && other s c (i + 9) && other s c (i + 10) && other s c (i + 11) && other s c (i + 12) && other s c (i + 13) && other s c (i + 14) && other s c (i + 15)) ≡ true
    → Without s c i
sixteen_without_lem s c i h e = record { within = h; after = to 15 tt (to 14 tt (to 13 tt (to 12 tt (to 11 tt (to 10 tt (to 9 tt (to 8 tt (to 7 tt (to 6 tt (to 5 tt (to 4 tt (to 3 tt (to 2 tt (to 1 tt one)))))))))))))) e }
  where
    one : other s c i ≡ true → find_from c s (i + 1) ≡ find_from c s i
    one f = find-next c s i (omega arith) (eqb-false (get_or s i 0) c (not-true (eqb (get_or s i 0) c) f))

    to : (k : ℕ) → T (ltb k 16) → {t : Bool} → (t ≡ true → find_from c s (i + k) ≡ find_from c s i) → (t && other s c (i + k)) ≡ true
        → find_from c s (i + suc k) ≡ find_from c s i
    to k l {t} f e =
        let b = eqb-false (get_or s (i + k) 0) c (not-true (eqb (get_or s (i + k) 0) c) (and_right t (other s c (i + k)) e)) in
        let d : i + suc k ≡ i + k + 1 = omega arith in
        let m = ltb→lt k 16 l in
        rw d (find-next c s (i + k) (omega arith) b ∙ f (and_left t (other s c (i + k)) e))

-- Four bytes, one after the other: where the first c is, or that it is not among those looked at

module _ (s : List ℕ) (c i : ℕ) (h : i + 4 ≤ length s) where
  pub found_first : get_or s i 0 ≡ c → i ≡ find_from c s i
  found_first f = sym (find-here c s i (omega arith) f)

  module _ (a : get_or s i 0 ≡ c → ⊥) where
    past_one : find_from c s (i + 1) ≡ find_from c s i
    past_one = find-next c s i (omega arith) a

    pub found-second : get_or s (i + 1) 0 ≡ c → i + 1 ≡ find_from c s i
    found-second f = sym (find-here c s (i + 1) (omega arith) f) ∙ past_one

    module _ (b : get_or s (i + 1) 0 ≡ c → ⊥) where
      past_two : find_from c s (i + 2) ≡ find_from c s i
      past_two = (let e : i + 2 ≡ i + 1 + 1 = omega arith in rw e (find-next c s (i + 1) (omega arith) b)) ∙ past_one

      pub found_third : get_or s (i + 2) 0 ≡ c → i + 2 ≡ find_from c s i
      found_third f = sym (find-here c s (i + 2) (omega arith) f) ∙ past_two

      module _ (d : get_or s (i + 2) 0 ≡ c → ⊥) where
        past_three : find_from c s (i + 3) ≡ find_from c s i
        past_three = (let e : i + 3 ≡ i + 2 + 1 = omega arith in rw e (find-next c s (i + 2) (omega arith) d)) ∙ past_two

        pub found_fourth : get_or s (i + 3) 0 ≡ c → i + 3 ≡ find_from c s i
        found_fourth f = sym (find-here c s (i + 3) (omega arith) f) ∙ past_three

        pub past-four : (get_or s (i + 3) 0 ≡ c → ⊥) → find_from c s (i + 4) ≡ find_from c s i
        past-four f = (let e : i + 4 ≡ i + 3 + 1 = omega arith in rw e (find-next c s (i + 3) (omega arith) f)) ∙ past_three
