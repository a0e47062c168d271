-- Laws of digits written from the last to the first. (01: Program linlist)
-- Assumes nothing.
use Prim.Native.Nat.{ℕ, suc, ◌+◌, ◌-◌, ◌/◌, ◌%◌, ◌≤◌, ◌<◌}
use native.Mathlib.Omega.{arith}
use mathlib.Core.Path.{◌≡◌, refl, ap, sym, ◌∙◌}
use mathlib.Core.List.{List, [], ◌∷◌, ◌++◌, append_assoc}
use lib.ListN.{length, drop, set, length-append, length-set}
use lib.Seq.{take-set-le, drop-set-lt, drop-cons, get_or-set_same}
use Rattle.lin_spec.specs.Output.{overlay}
use Rattle.lin_spec.specs.Decimal.{digit, decimal}
use Rattle.lin_spec.proofs.Decimal.{decimal-short, decimal-long, length-short, length-long}
use Rattle.output.specs.Put.{Room, Put}
use Rattle.output.proofs.Laws.{set-overlay}

-- a byte stored after the place of a text, and then the text, is the text with that byte at its end
store-last : (o : List ℕ) (at : ℕ) (s : List ℕ) (b : ℕ) → at + length s < length o → overlay (set o (at + length s) b) at s ≡ overlay o at (s ++ (b ∷ []))
unfolding overlay
store-last o at s b h =
    let p : ℕ = at + length s in
    let k : p < length (set o p b) = rw (length-set o p b) h in
    let e : drop p (set o p b) ≡ b ∷ drop (suc p) o = drop-cons (set o p b) p 0 k ∙ simp (get_or-set_same o p b 0 h, drop-set-lt (suc p) o p b (omega arith)) in
    let l : at + length (s ++ (b ∷ [])) ≡ suc p = omega (arith, length-append s (b ∷ [])) in
    simp (take-set-le at o p b (omega arith), e, l, append_assoc)

-- the digits of n are written from the place o on, and those before it are the digits of rest
pub record Back (d : List ℕ) (o rest : ℕ) (d₀ : List ℕ) (at n : ℕ) : Type 0 where
  pub same : overlay d at (decimal rest) ≡ overlay d₀ at (decimal n)
  pub place : o ≡ at + length (decimal rest)
  pub room : o ≤ length d
  pub long : length d ≡ length d₀
  pub most : rest ≤ n

pub back_start : (d : List ℕ) (at n o : ℕ) → Room d at (decimal n) → o ≡ at + length (decimal n) → Back d o n d at n
back_start d at n o r e = record { same = refl; place = e; room = omega (arith, r.room); long = refl; most = omega arith }

module _ {d : List ℕ} {o rest : ℕ} {d₀ : List ℕ} {at n : ℕ} (l : Back d o rest d₀ at n) where
  -- there is a place before o while two digits are left, and the last digit left has its place
  pub before-o : 10 ≤ rest → 1 ≤ o
  before-o h = omega (arith, l.place, length-long rest h)

  pub at-inside : rest < 10 → at < length d
  at-inside h = omega (arith, l.place, l.room, length-short rest h)

  -- a turn writes the last of the digits that are left
  pub back_turn : 10 ≤ rest → (b : ℕ) → b ≡ digit (rest % 10) → Back (set d (o - 1) b) (o - 1) (rest / 10) d₀ at n
  back_turn h b e =
      let t : List ℕ = decimal (rest / 10) in
      let q : o - 1 ≡ at + length t = omega (arith, l.place, length-long rest h) in
      let k : at + length t < length d = omega (arith, l.place, l.room, length-long rest h) in
      record {
        same = rw (q, e) (store-last d at t (digit (rest % 10)) k ∙ ap (overlay d at) (sym (decimal-long rest h)) ∙ l.same);
        place = q;
        room = rw (length-set d (o - 1) b) (omega arith);
        long = length-set d (o - 1) b ∙ l.long;
        most = omega arith;
      }

  -- and the only one is the first
  pub back_finish : rest < 10 → (b : ℕ) → b ≡ digit rest → (end : ℕ) → end ≡ at + length (decimal n) → Put d₀ at (decimal n) (set d at b) end
  back_finish h b e end f =
      record { next = f; text = set-overlay d at b (at-inside h) ∙ rw e (ap (overlay d at) (sym (decimal-short rest h)) ∙ l.same) }
