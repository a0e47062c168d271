-- Laws of parts of a text, as a borrow gives them. (01: Records)
-- Assumes nothing.
use Prim.Native.Nat.{ℕ, ◌+◌, ◌-◌, ◌≤◌}
use native.Mathlib.Nat.{add-sub_cancel_left}
use native.Mathlib.Omega.{arith}
use mathlib.Core.Path.{◌≡◌, sym, ◌∙◌}
use mathlib.Core.List.{List, []}
use lib.ListN.{length, take, drop, length-drop, drop_of_length-le}
use lib.Seq.{take-nil, take_all}
use Rattle.lin_spec.specs.Records.{part}
use Rattle.lin_spec.proofs.Records.{part-rest}

pub part-past : (s : List ℕ) (a n : ℕ) → length s ≤ a → [] ≡ part s a n
unfolding part
part-past s a n h = simp (drop_of_length-le s h, take-nil)

pub part_to_end : (s : List ℕ) (a n : ℕ) → length s - a ≤ n → take (length s - a) (drop a s) ≡ part s a n
part_to_end s a n h = take_all (length s - a) (drop a s) (rw (length-drop a s) (omega arith)) ∙ sym (part-rest s a n h)

pub part-within : (s : List ℕ) (a n : ℕ) → take (a + n - a) (drop a s) ≡ part s a n
unfolding part
part-within s a n = rw add-sub_cancel_left
