-- Laws of cleaning in place: a part of an output is cleaned byte by byte. (01: Writer, clean)
-- Assumes nothing.
use Prim.Native.Nat.{ℕ, ◌+◌, ◌-◌, ◌≤◌}
use native.Mathlib.Omega.{arith}
use mathlib.Core.Path.{◌≡◌, refl, ap, sym, ◌∙◌}
use mathlib.Core.List.{List, [], ◌∷◌, ◌++◌, map, append_assoc, append-nil}
use lib.ListN.{length, take, drop, length-take, length-drop, drop_of_length-le}
use lib.Seq.{take_all, drop-drop}
use borrow.Rule.Slice.PartMut.{put_mid}
use Rattle.lin_spec.specs.Output.{overlay}
use Rattle.lin_spec.specs.Records.{part}
use Rattle.lin_spec.specs.Writer.{clean}
use Rattle.writer_texts.specs.Texts.{clean_byte}
use Rattle.writer_texts.proofs.TextLaws.{clean-length}

cleaned : (p q : ℕ) (s : List ℕ) → map (clean_byte p q) s ≡ clean p q s
unfolding clean
cleaned p q [] = refl
cleaned p q (b ∷ s) = ap (λ (t : List ℕ). clean_byte p q b ∷ t) (cleaned p q s)

module _ (p q : ℕ) (o : List ℕ) (from to : ℕ) (h : from ≤ to) (k : to ≤ length o) (xs : List ℕ) (e : xs ≡ take (to - from) (drop from o)) where
  long : from + (to - from) ≡ from + length (clean p q xs)
  long = omega (arith, clean-length p q xs, ap length e, length-take (to - from) (drop from o), length-drop from o)

  pub part_done : (ys : List ℕ) (i : ℕ) → ys ≡ map (clean_byte p q) (take i xs) ++ drop i xs → length xs ≤ i
      → put_mid from (to - from) o ys ≡ overlay o from (clean p q (part o from (to - from)))
  unfolding overlay part
  part_done ys i f l =
      let all : ys ≡ clean p q xs = f ∙ rw (take_all i xs l, drop_of_length-le xs l) (append-nil (map (clean_byte p q) xs) ∙ cleaned p q xs) in
      ap (λ (s : List ℕ). put_mid from (to - from) o s) all
      ∙ sym (append_assoc (take from o) (clean p q xs) (drop (to - from) (drop from o)))
      ∙ ap (λ (s : List ℕ). take from o ++ clean p q xs ++ s) (drop-drop (to - from) from o ∙ ap (λ (n : ℕ). drop n o) long)
      ∙ ap (λ (s : List ℕ). overlay o from (clean p q s)) e
