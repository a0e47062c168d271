-- What it means to put a text into an output from a place on. (01: Writer)
use Rattle.std.specs.Prelude.{◌≡◌, ℕ, ◌+◌, ◌≤◌, List, [], ◌∷◌, ◌++◌, length}
use Rattle.lin_spec.specs.Output.{overlay}

-- s fits into o from the place `at` on
pub record Room {A : Type 0} (o : List A) (at : ℕ) (s : List A) : Type 0 where
  pub room : at + length s ≤ length o

-- o' is o with s from the place `at` on, and at' is the place after it
pub record Put {A : Type 0} (o : List A) (at : ℕ) (s o' : List A) (at' : ℕ) : Type 0 where
  pub next : at' ≡ at + length s
  pub text : o' ≡ overlay o at s

-- the pieces of a run of puts, one after the other
abbrev pub joined : {A : Type 0} → List (List A) → List A
joined [] = []
joined (p ∷ ps) = p ++ joined ps
