-- `lin_host_numbers::place_numbers` meets its contract: an array of four has four spans.
use Prim.Native.Nat.{ℕ}
use native.Mathlib.Omega.{arith}
use mathlib.Core.Path.{◌≡◌, refl}
use mathlib.Core.List.{List, [], ◌∷◌}
use lib.ListN.{length, get_or}
use Rattle.lin_spec.specs.Records.{span}
use Rattle.lin_spec.specs.declared.Span.{Span}
use Rattle.lin_host_numbers.specs.Boards.{place_numbers}
use borrow.Author.Rules.{rules}
use Rattle.lin_host_numbers.proofs.boards.place_numbers.Goals as goal

nth : List Span → ℕ → Span
nth xs i = get_or xs i (span 0 0)

four : (xs : List Span) → length xs ≡ 4 → (nth xs 0).start ∷ (nth xs 0).len ∷ (nth xs 1).start ∷ (nth xs 1).len ∷ (nth xs 2).start ∷ (nth xs 2).len ∷ (nth xs 3).start ∷ (nth xs 3).len ∷ [] ≡ place_numbers xs
unfolding nth place_numbers
four [] h = absurd (omega arith)
four (s ∷ []) h = absurd (omega arith)
four (s ∷ w ∷ []) h = absurd (omega arith)
four (s ∷ w ∷ n ∷ []) h = absurd (omega arith)
four (s ∷ w ∷ n ∷ e ∷ []) h = refl
four (s ∷ w ∷ n ∷ e ∷ x ∷ xs) h = absurd (omega arith)

pub returns : goal.returns
unfolding nth
returns c = four _ (search rules)
