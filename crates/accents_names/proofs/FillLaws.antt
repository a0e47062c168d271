-- Laws of the code that puts the mapped characters of a name into work space. (02: N3) Assumes nothing.
use Prim.Native.Nat.{ℕ, suc, ◌-◌, ◌≤◌}
use native.Mathlib.Omega.{arith}
use mathlib.Core.Path.{◌≡◌, ap, subst, sym, ◌∙◌}
use mathlib.Core.List.{List, [], ◌∷◌, ◌++◌}
use lib.ListN.{length, take, drop, drop_of_length-le}
use Rattle.output.specs.Put.{Room, Put}
use Rattle.output.proofs.Laws.{Left, start, roomy, step, finish}
use Rattle.accents.specs.Mapping.{map_once, map_times, mapped}
use Rattle.accents.specs.Lines.{full, FullIs}
use Rattle.accents.specs.Chars.{chars_after, chars, CharAt}
use Rattle.accents.specs.declared.full.Full.{Full}
use Rattle.accents.proofs.MappingLaws.{mapped-append}
use Rattle.accents_names.specs.Work.{FullFits}

-- The characters one after the other

-- what is left after the first, and after the second
abbrev pub rest1 : Full → List ℕ
rest1 f = take (f.count - 1) (f.second ∷ f.third ∷ [])

abbrev pub rest2 : Full → List ℕ
rest2 f = take (f.count - 2) (f.third ∷ [])

take-first : (k n a : ℕ) (l : List ℕ) → k ≡ suc n → take k (a ∷ l) ≡ a ∷ take n l
take-first k n a l e = rw e

module _ (o : List ℕ) (at : ℕ) (f : Full) (h : FullFits o at f) where
  -- the first is to be put
  before-first : Left o at ((f.first ∷ []) ++ rest1 f) o at (full f)
  before-first =
      subst (λ (l : List ℕ). Left o at l o at (full f))
      (take-first f.count (f.count - 1) f.first (f.second ∷ f.third ∷ []) (omega (arith, h.some)))
      (start h.room)

  pub first-room : Room o at (f.first ∷ [])
  first-room = roomy (f.first ∷ []) (rest1 f) before-first

  module _ {d : List ℕ} {n : ℕ} (p : Put o at (f.first ∷ []) d n) where
    after_first : Left d n (rest1 f) o at (full f)
    after_first = step {s = f.first ∷ []} {t = rest1 f} before-first p

    -- it is the only one
    pub one_put : f.count ≡ 1 → Put o at (full f) d n
    one_put e = let z : rest1 f ≡ [] = rw e in finish (rw z at after_first)

    module _ (e : f.count ≡ 1 → ⊥) where
      before-second : Left d n ((f.second ∷ []) ++ rest2 f) o at (full f)
      before-second =
          subst (λ (l : List ℕ). Left d n l o at (full f))
          (take-first (f.count - 1) (f.count - 2) f.second (f.third ∷ []) (omega (arith, h.some)))
          after_first

      pub second-room : Room d n (f.second ∷ [])
      second-room = roomy (f.second ∷ []) (rest2 f) before-second

      module _ {d' : List ℕ} {n' : ℕ} (q : Put d n (f.second ∷ []) d' n') where
        after-second : Left d' n' (rest2 f) o at (full f)
        after-second = step {s = f.second ∷ []} {t = rest2 f} before-second q

        pub two_put : f.count ≡ 2 → Put o at (full f) d' n'
        two_put g = let z : rest2 f ≡ [] = rw g in finish (rw z at after-second)

        module _ (g : f.count ≡ 2 → ⊥) where
          before_third : Left d' n' ((f.third ∷ []) ++ []) o at (full f)
          before_third =
              let k : f.count ≡ 3 = omega (arith, h.some, h.few) in
              let z : rest2 f ≡ f.third ∷ [] = rw k in
              subst (λ (l : List ℕ). Left d' n' l o at (full f)) z after-second

          pub three_put : {d'' : List ℕ} {n'' : ℕ} → Put d' n' (f.third ∷ []) d'' n'' → Put o at (full f) d'' n''
          three_put r = finish (step {s = f.third ∷ []} {t = []} before_third r)

-- A name

module _ (s o d : List ℕ) (i n at c next : ℕ) (f : Full) (l : Left d n (mapped (chars (drop i s))) o at (mapped (chars s))) (a : CharAt s i c next) (h : FullIs c f) where
  -- what is left to put is the characters of the next, and then those of the rest
  before_char : Left d n (full f ++ mapped (chars (drop next s))) o at (mapped (chars s))
  before_char =
      let e : mapped (chars (drop i s)) ≡ full f ++ mapped (chars (drop next s)) = ap mapped a.here ∙ mapped-append (c ∷ []) (chars (drop next s)) ∙ ap (λ (t : List ℕ). t ++ mapped (chars (drop next s))) (sym h.are) in
      rw e at l

  pub char_fits : FullFits d n f
  char_fits = record { room = roomy (full f) (mapped (chars (drop next s))) before_char; some = h.some; few = h.few }

  pub char_put : {d' : List ℕ} {n' : ℕ} → Put d n (full f) d' n' → Left d' n' (mapped (chars (drop next s))) o at (mapped (chars s))
  char_put p = step {s = full f} {t = mapped (chars (drop next s))} before_char p

pub chars-end : (s o d : List ℕ) (i n at : ℕ) → Left d n (mapped (chars (drop i s))) o at (mapped (chars s)) → length s ≤ i → Put o at (mapped (chars s)) d n
unfolding chars_after mapped map_times map_once
chars-end s o d i n at l h =
    let e : mapped (chars (drop i s)) ≡ [] = rw (drop_of_length-le s h) in
    finish (rw e at l)
