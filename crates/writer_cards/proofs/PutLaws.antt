-- Puts of a text that is known by an equation: nothing, as it is, or in two pieces. (01: Writer)
-- Assumes nothing.
use Prim.Native.Nat.{ℕ}
use native.Mathlib.Omega.{arith}
use mathlib.Core.Path.{◌≡◌, sym, subst}
use mathlib.Core.List.{List, [], ◌++◌, append-nil}
use Rattle.output.specs.Put.{Room, Put}
use Rattle.output.proofs.Laws.{Left, overlay-nil, start, roomy, step, finish}

-- an empty text is put by doing nothing
pub put_none : (o : List ℕ) (at : ℕ) (s : List ℕ) → s ≡ [] → Put o at s o at
put_none o at s e = record { next = rw e (omega arith); text = rw e (sym (overlay-nil o at)) }

-- a text is put as another that equals it
pub room_as : {o : List ℕ} {at : ℕ} (s t : List ℕ) → s ≡ t → Room o at s → Room o at t
room_as {o} {at} s t e r = subst (Room o at) e r

pub put_as : {o : List ℕ} {at : ℕ} {o' : List ℕ} {p : ℕ} (s t : List ℕ) → s ≡ t → Put o at t o' p → Put o at s o' p
put_as {o} {at} {o'} {p} s t e r = subst (λ (x : List ℕ). Put o at x o' p) (sym e) r

-- two pieces
module _ {o : List ℕ} {at : ℕ} (x s t : List ℕ) (e : x ≡ s ++ t) (r : Room o at x) where
  whole : Left o at (s ++ t) o at x
  whole = rw (← e) (start r)

  pub first-room : Room o at s
  first-room = roomy s t whole

  module _ {o' : List ℕ} {p : ℕ} (q : Put o at s o' p) where
    rest : Left o' p (t ++ []) o at x
    rest = rw append-nil (step {s = s} {t = t} whole q)

    pub second-room : Room o' p t
    second-room = roomy t [] rest

    pub put_both : {o'' : List ℕ} {p' : ℕ} → Put o' p t o'' p' → Put o at x o'' p'
    put_both u = finish (step {s = t} {t = []} rest u)
