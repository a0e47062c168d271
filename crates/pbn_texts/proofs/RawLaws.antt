-- Laws of all the texts: those after the names are put as they are, and then cleaned where they stand. (01: From PBN)
-- Assumes nothing.
use Prim.Native.Nat.{ℕ, ◌+◌, ◌-◌, ◌≤◌}
use native.Mathlib.Omega.{arith}
use mathlib.Core.Path.{◌≡◌, ap, sym, ◌∙◌}
use mathlib.Core.List.{List, ◌++◌, append_assoc}
use lib.ListN.{length, take, drop, length-append, length-take}
use lib.Seq.{take-append_seam, drop_at}
use Rattle.lin_spec.specs.Records.{part}
use Rattle.lin_spec.specs.Output.{overlay}
use Rattle.lin_spec.specs.Writer.{clean}
use Rattle.output.specs.Put.{Room, Put}
use Rattle.output.proofs.Laws.{overlay-overlay, length-overlay}
use Rattle.writer_texts.proofs.TextLaws.{clean-length}

-- a text that was put, and what replaces it
part_put : (o : List ℕ) (at : ℕ) (t : List ℕ) → at ≤ length o → part (overlay o at t) at (length t) ≡ t
unfolding part overlay
part_put o at t h =
    let r = drop (at + length t) o in
    ap (λ (x : List ℕ). take (length t) (drop at x)) (append_assoc (take at o) t r)
    ∙ ap (take (length t)) (drop_at (take at o) (t ++ r) at (let z = length-take at o in let e : length (take at o) ≡ at = omega arith in e))
    ∙ take-append_seam t r

replaced : (o : List ℕ) (at : ℕ) (t u : List ℕ) → at ≤ length o → length u ≡ length t → overlay (overlay o at t) at u ≡ overlay o at u
unfolding overlay
replaced o at t u h e =
    let r = drop (at + length t) o in
    let f : length (take at o) ≡ at = (let z = length-take at o in omega arith) in
    let g : length (take at o ++ t) ≡ at + length u = (let z = length-append (take at o) t in omega arith) in
    let front : take at (take at o ++ t ++ r) ≡ take at o = ap (take at) (append_assoc (take at o) t r) ∙ ap (λ (n : ℕ). take n (take at o ++ (t ++ r))) (sym f) ∙ take-append_seam (take at o) (t ++ r) in
    let back : drop (at + length u) (take at o ++ t ++ r) ≡ drop (at + length u) o = drop_at (take at o ++ t) r (at + length u) g ∙ ap (λ (n : ℕ). drop (at + n) o) (sym e) in
    λ i. front i ++ u ++ back i

-- x, and then y cleaned, where there is room for both
module _ (p q : ℕ) (x y : List ℕ) {o : List ℕ} (room : Room o 0 (x ++ clean p q y)) where
  pub first_fits : Room o 0 x
  first_fits = record { room = omega (arith, room.room, length-append x (clean p q y)) }

  module _ {o₁ : List ℕ} {a : ℕ} (put : Put o 0 x o₁ a) where
    pub second_fits : Room o₁ a y
    second_fits =
        record {
          room = omega (arith, room.room, put.next, length-append x (clean p q y), clean-length p q y, ap length put.text ∙ length-overlay o 0 x first_fits.room);
        }

    module _ {o₂ : List ℕ} {n : ℕ} (put₂ : Put o₁ a y o₂ n) where
      pub second-ends : (a ≤ n) × (n ≤ length o₂)
      second-ends = (omega (arith, put₂.next), omega (arith, put₂.next, second_fits.room, ap length put₂.text ∙ length-overlay o₁ a y second_fits.room))

      -- y is put as it is, and then cleaned where it stands
      pub cleaned_put : (o₃ : List ℕ) → o₃ ≡ overlay o₂ a (clean p q (part o₂ a (n - a))) → Put o 0 (x ++ clean p q y) o₃ n
      cleaned_put o₃ e =
          let h : a ≤ length o₁ = omega (arith, second_fits.room) in
          let f : n - a ≡ length y = omega (arith, put₂.next) in
          let there : part o₂ a (n - a) ≡ y = (λ i. part (put₂.text i) a (f i)) ∙ part_put o₁ a y h in
          record {
            next = omega (arith, put.next, put₂.next, length-append x (clean p q y), clean-length p q y);
            text =
                e
                ∙ (λ i. overlay (put₂.text i) a (clean p q (there i)))
                ∙ replaced o₁ a y (clean p q y) h (clean-length p q y)
                ∙ (λ i. overlay (put.text i) (put.next i) (clean p q y))
                ∙ overlay-overlay o 0 x (clean p q y);
          }
