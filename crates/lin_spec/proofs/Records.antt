-- Laws of parts of a text. (01: Records)
-- Assumes nothing.
use Prim.Native.Nat.{ℕ, ◌+◌, ◌-◌, ◌≤◌}
use native.Mathlib.Omega.{arith}
use mathlib.Core.Path.{◌≡◌}
use mathlib.Core.List.{List}
use lib.ListN.{length, drop, length-drop}
use lib.Seq.{length-take-le, take_all}
use Rattle.lin_spec.specs.Records.{part}

-- a part within the text has the length that is asked for
pub part_length : (s : List ℕ) (a n : ℕ) → a + n ≤ length s → length (part s a n) ≡ n
unfolding part
part_length s a n h = length-take-le n (drop a s) (simp length-drop (omega arith))

-- a part that reaches the end is the rest of the text
pub part-rest : (s : List ℕ) (a n : ℕ) → length s - a ≤ n → part s a n ≡ drop a s
unfolding part
part-rest s a n h = take_all n (drop a s) (rw (length-drop a s) h)
