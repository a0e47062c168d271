-- Which answer opening a cursor gives, by the tests that were made. (01: Eight refusals)
-- Assumes nothing.
use Rattle.std.specs.Prelude.{Err, Ok}
use Prim.Native.Nat.{ℕ, ◌≤◌, ◌<◌}
use mathlib.Core.Path.{◌≡◌}
use mathlib.Core.List.{List}
use lib.ListN.{length}
use borrow.Author.Tests.{lt-ltb, le-ltb}
use Rattle.lin_spec.specs.Records.{limit}
use Rattle.lin_spec.specs.Utf8.{longest}
use Rattle.lin_spec.specs.Refusals.{unless}
use Rattle.lin_spec.specs.Document.{open_text}
use Rattle.lin_spec.specs.declared.Refusal.TheVariants.{TextTooLong, NotUtf8}
use Rattle.lin_spec.proofs.Utf8.{short, whole-text}

-- open
module _ (s : List ℕ) where
  pub open-long : limit < length s → Err TextTooLong ≡ open_text s
  unfolding open_text unless
  open-long h = simp (lt-ltb limit (length s) h)

  pub open-ill : length s ≤ limit → (n : ℕ) → n ≡ longest s → n < length s → Err (NotUtf8 n) ≡ open_text s
  unfolding open_text unless
  open-ill h n e k = simp (le-ltb limit (length s) h, short s n e k, ← e)

  pub open-good : length s ≤ limit → (n : ℕ) → n ≡ longest s → length s ≤ n → Ok 0 ≡ open_text s
  unfolding open_text unless
  open-good h n e k = simp (le-ltb limit (length s) h, whole-text s n e k)
