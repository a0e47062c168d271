-- Laws of the checks, and of an output that is filled unless one of them refuses. (01: Eight refusals)
-- Assumes nothing.
use Rattle.std.specs.Result.{IsErr, IsErrAnd}
use Rattle.std.specs.Prelude.{Option, None, Some, Err, Ok, Result}
use Prim.Native.Nat.{ℕ, ◌+◌}
use native.Mathlib.Omega.{arith}
use mathlib.Core.Path.{◌≡◌, refl, ap, sym, ◌∙◌}
use mathlib.Core.Bool.{Bool, true, false}
use mathlib.Core.List.{List, [], ◌∷◌, ◌++◌}
use lib.ListN.{length, take, drop}
use lib.Seq.{take-append_seam}
use Rattle.lin_spec.specs.Refusals.{Answer, refuse_if, unless}
use Rattle.lin_spec.specs.Output.{Outcome, overlay, output_after, fill}
use Rattle.lin_spec.specs.declared.Refusal.{Refusal}

-- a call that is accepted met none of its checks
pub unmet : {A : Type 0} (t : Bool) (r : Refusal) (cs : List (Option Refusal)) (a b : A) → unless (refuse_if t r ∷ cs) a ≡ Ok b
    → (t ≡ false) × (unless cs a ≡ Ok b)
unfolding unless
unmet true r cs a b h = let z : ◌≡◌ {A = ℕ} 0 1 = cc in absurd (omega arith)
unmet false r cs a b h = (refl, h)

-- and its answer is the result
pub unless-same : {A : Type 0} (cs : List (Option Refusal)) (a b : A) → unless cs a ≡ Ok b → a ≡ b
unfolding unless
unless-same [] a b h = cc
unless-same (None ∷ cs) a b h = unless-same cs a b h
unless-same (Some r ∷ cs) a b h = let z : ◌≡◌ {A = ℕ} 0 1 = cc in absurd (omega arith)

-- the first checks refuse whatever the result would be and whatever checks follow; where they accept, those that follow decide
pub unless-refused : {A B : Type 0} (cs ds : List (Option Refusal)) (a : A) (b : B) (r : Refusal) → unless cs a ≡ Err r → unless (cs ++ ds) b ≡ Err r
unfolding unless
unless-refused [] ds a b r h = let z : ◌≡◌ {A = ℕ} 0 1 = cc in absurd (omega arith)
unless-refused (None ∷ cs) ds a b r h = unless-refused cs ds a b r h
unless-refused (Some x ∷ cs) ds a b r h = cc

pub unless-passed : {A B : Type 0} (cs ds : List (Option Refusal)) (a x : A) (b : B) → unless cs a ≡ Ok x → unless (cs ++ ds) b ≡ unless ds b
unfolding unless
unless-passed [] ds a x b h = refl
unless-passed (None ∷ cs) ds a x b h = unless-passed cs ds a x b h
unless-passed (Some r ∷ cs) ds a x b h = let z : ◌≡◌ {A = ℕ} 0 1 = cc in absurd (omega arith)

-- an output that was filled
pub record Filled (cs : List (Option Refusal)) (o s : List ℕ) (n : ℕ) (o' : List ℕ) : Type 0 where
  pub answer : unless cs (length s) ≡ Ok n
  pub long : n ≡ length s
  pub output : o' ≡ overlay o 0 s

pub filled : (cs : List (Option Refusal)) (o s : List ℕ) (n : ℕ) (o' : List ℕ) → fill cs o s ≡ record { answer = Ok n; output = o' } → Filled cs o s n o'
unfolding fill
filled cs o s n o' h =
    let e : unless cs (length s) ≡ Ok n = ap (λ (x : Outcome). x.answer) h in
    record {
      answer = e;
      long = sym (unless-same cs (length s) n e);
      output = sym (ap (λ (x : Outcome). x.output) h) ∙ ap (λ (a : Answer ℕ). output_after a o s) e;
    }

-- its first bytes are those written
pub filled_bytes : (cs : List (Option Refusal)) (o s : List ℕ) (n : ℕ) (o' : List ℕ) → fill cs o s ≡ record { answer = Ok n; output = o' } → take n o' ≡ s
unfolding overlay
filled_bytes cs o s n o' h =
    let f = filled cs o s n o' h in
    rw (f.long, f.output) (take-append_seam s (drop (0 + length s) o))

-- "All lent memory stays": a refused call leaves the output as it was
pub refused-stays : (cs : List (Option Refusal)) (o s : List ℕ) (r : Refusal) → (fill cs o s).answer ≡ Err r → (fill cs o s).output ≡ o
unfolding fill
refused-stays cs o s r h = ap (λ (a : Answer ℕ). output_after a o s) h

-- what `?` hands on where it leaves: the refusal that was met
pub handed : {A : Type 0} (r : Result A Refusal) (e : Refusal) → IsErr r × IsErrAnd r (λ x. x ≡ e) → r ≡ Err e
handed (Ok x) e h = absurd h.1
handed (Err x) e h = ap Err h.1
