-- What is read of an input has the listing of the whole. (01: Program linlist, "at most 65,536 bytes")
-- Assumes nothing.
use Rattle.std.proofs.Common.{◌≡◌, ℕ, ◌<◌, List, [], ◌++◌, length, take, drop, arith, refl, sym, ◌∙◌, append-nil, length-append, zero-add, inl, inr}
use lib.Seq.{take-append_seam}
use Rattle.std.specs.Prelude.{IfSome, None, Some}
use Rattle.std.specs.Io.KnownBytes.{Appends, Consumes, IsAtEnd}
use Rattle.std.specs.declared.option.Option.{Option}
use Rattle.std.proofs.lemmas.Bool.{cases_lt}
use Rattle.lin_spec.specs.Records.{part}
use Rattle.lin_spec.specs.Output.{overlay}
use Rattle.lin_spec.specs.Listing.{listing}
use Rattle.listing.proofs.FileLaws.{list_over}
use Rattle.output.specs.Put.{Put}

-- the input is longer than what was read of it only where that is too long already
front-listing : (s rest : List ℕ) → (length s < 65537 → rest ≡ []) → listing s ≡ listing (s ++ rest)
front-listing s rest end =
    elim (cases_lt (length s) 65537) [
      | inl h ↦ rw (end h, append-nil s) refl
      | inr h ↦ sym (list_over s (omega arith)) ∙ list_over (s ++ rest) (omega (arith, length-append s rest))
    ]

pub part_front : (s : List ℕ) (n : ℕ) → part s 0 n ≡ take n s
unfolding part
part_front s n = refl

-- the bytes that were put at an output's front
pub put_front : (o s o' : List ℕ) (n : ℕ) → Put o 0 s o' n → part o' 0 n ≡ s
unfolding part overlay
put_front o s o' n p = rw (p.next, p.text, zero-add (length s)) (take-append_seam s (drop (length s) o))

pub whole-listing : (a b w w' : Option (List ℕ)) (s t : List ℕ) → Consumes a b s → (length s < 65537 → IsAtEnd b) → t ≡ listing s → Appends w w' t
    → IfSome a (λ xs. Appends w w' (listing xs))
whole-listing None b w w' s t c end e p = tt
whole-listing (Some xs) None w w' s t c end e p = absurd c
whole-listing (Some xs) (Some rest) w w' s t c end e p = rw (c, ← front-listing s rest end, ← e) p
