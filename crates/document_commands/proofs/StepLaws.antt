-- Laws of one token with its command's number. (01: Tokens, Board)
-- Assumes nothing.
use Rattle.std.specs.Prelude.{Option}
use Rattle.document.specs.declared.tokens.Cursor.{Cursor}
use Prim.Native.Nat.{ℕ, ◌+◌, ◌-◌, ◌^◌, ◌≤◌, ◌<◌}
use native.Mathlib.Omega.{arith}
use mathlib.Core.Path.{◌≡◌, ap, sym, subst, ◌∙◌}
use mathlib.Core.List.{List, []}
use lib.ListN.{length, get_or}
use lib.Dec.{eqb}
use Rattle.lin_spec.specs.Records.{span, part}
use Rattle.lin_spec.specs.White.{is_command}
use Rattle.lin_spec.specs.Tokens.{pipe}
use Rattle.lin_spec.specs.Cursor.{Place, step_at, find_from}
use Rattle.lin_spec.specs.Cursor.Step.{found, ended}
use Rattle.lin_spec.specs.Reading.{stream}
use Rattle.lin_spec.specs.declared.Span.{Span}
use Rattle.lin_spec.proofs.Base.{split}
use Rattle.lin_spec.proofs.Cursor.{means, find-end, find-after, step_none, step_one, step_two, step_after}
use Rattle.lin_spec.proofs.Reading.{streams}
use Rattle.document.specs.declared.tokens.Part.{Part}
use Rattle.document_commands.specs.Commands.{words, command_of}
use Rattle.document_commands.specs.Steps.{TokenAt, Commands, BoardTokens, PartTokens}
use Rattle.document_commands.specs.declared.steps.BoardToken.{BoardToken}
use Rattle.document_commands.specs.declared.steps.PartToken.{PartToken}
use Rattle.document_commands.proofs.CommandLaws.{code_is}

-- the cursor's step gives it
module _ (s : List ℕ) (at : ℕ) (c v : Place) (n : ℕ) (e : step_at s at ≡ found c v n) where
  pub value-within : v.start + v.len ≤ length s
  value-within = let m = means s at (found c v n) e in let a = m.after in let w = m.within in omega arith

  pub token-at : (k : ℕ) → k ≡ command_of (part s c.start c.len) → TokenAt s at k (span v.start v.len) n
  token-at k ek =
      let m = means s at (found c v n) e in
      let a = m.after in
      let b = m.split in
      record { command = part s c.start c.len; front = streams s at (found c v n) e; number = ek; value = value-within; after = omega arith; later = omega arith; within = m.within }

pub no_token : (s : List ℕ) (at n : ℕ) → step_at s at ≡ ended n → stream s at ≡ []
no_token s at n e = streams s at (ended n) e

-- the next two pipes give it; the second is sought after the first even where there is none
module _ (s : List ℕ) (at p q : ℕ) (ep : p ≡ find_from pipe s at) (eq : q ≡ find_from pipe s (p + 1)) where
  pub pipes_none : length s ≤ q → stream s at ≡ []
  pipes_none h = split p (length s) (λ k. no_token s at at (step_one s at p ep k q eq h)) (λ k. no_token s at at (step_none s at p ep k))

  module _ (h : q < length s) where
    pub pipes_first : p < length s
    pipes_first = split p (length s) (λ k. k) (λ k. let e = find-end pipe s (p + 1) (omega arith) in absurd (let z : ⊥ = omega arith in z))

    pub pipes_command : (at ≤ p) × (p ≤ length s)
    pipes_command = (step_after s at p ep pipes_first, let l = pipes_first in omega arith)

    pub pipes_value : p + 1 ≤ q
    pipes_value = rw eq (find-after pipe s (p + 1) (rw eq at h))

    pub pipes_token : (k : ℕ) → k ≡ command_of (part s at (p - at)) → TokenAt s at k (span (p + 1) (q - (p + 1))) (q + 1)
    pipes_token k ek = token-at s at _ _ _ (step_two s at p ep pipes_first q eq h) k ek

-- what a step that was called for and taken apart says
pub commanded : (s : List ℕ) (at : ℕ) (r v : Option (ℕ × Part × Cursor)) → Commands s at r → r ≡ v → Commands s at v
commanded s at r v h e = subst (Commands s at) e h

pub tokened : (s : List ℕ) (at : ℕ) (r v : BoardToken) → BoardTokens s at r → r ≡ v → BoardTokens s at v
tokened s at r v h e = subst (BoardTokens s at) e h

pub parted : (s : List ℕ) (at : ℕ) (r v : PartToken) → PartTokens s at r → r ≡ v → PartTokens s at v
parted s at r v h e = subst (PartTokens s at) e h

-- its value as a span
pub spanned : (s : List ℕ) (at k : ℕ) (p : Part) (n : ℕ) (v : Span) → v ≡ span p.start p.len → TokenAt s at k (span p.start p.len) n → TokenAt s at k v n
spanned s at k p n v e = subst (λ (x : Span). TokenAt s at k x n) (sym e)

-- which has 32-bit places, where the text has
pub value-short : (s : List ℕ) (at k : ℕ) (p : Part) (n : ℕ) → TokenAt s at k (span p.start p.len) n → length s < 2 ^ 32 → p.start + p.len < 2 ^ 32
value-short s at k p n t h = let v = t.value in omega arith

-- the number says which command it is
pub command-is : (s : List ℕ) (at k : ℕ) (v : Span) (n : ℕ) (t : TokenAt s at k v n) (i : ℕ) → i < 10 → is_command t.command (get_or words i []) ≡ eqb k i
command-is s at k v n t i h = code_is t.command i h ∙ ap (λ (x : ℕ). eqb x i) (sym t.number)
