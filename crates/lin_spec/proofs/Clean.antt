-- Laws of clean, for any two bytes that it may put: what is left holds no pipe and no line break, and is cleaned already; names hold no comma. And of
-- the exclamation marks at the end of a bid. (01: Writer and settled form; Board, mb)
-- Assumes nothing.
use Prim.Native.Nat.{ℕ, ◌≤◌}
use native.Mathlib.Omega.{arith}
use mathlib.Core.Path.{◌≡◌, refl, ap, subst, ◌∙◌}
use mathlib.Core.Bool.{Bool, true, false, ◌||◌, not, and-true, and-false}
use mathlib.Core.List.{List, [], ◌∷◌, ◌++◌, append-nil}
use lib.ListN.{length, take}
use lib.Dec.{eqb}
use borrow.Author.Tests.{ne_eqb, eqb-false, eqb-true, eq-eqb, not-true}
use Rattle.lin_spec.specs.Base.{pick, All, all, keep}
use Rattle.lin_spec.specs.Tokens.{pipe, count}
use Rattle.lin_spec.specs.Board.{ends_in, only, without_end}
use Rattle.lin_spec.specs.Writer.{clean, without, clean_name}
use Rattle.lin_spec.proofs.Base.{picked, or_none, all_keep, all-kept}

-- the bytes that clean may put: "one byte from 20 to 7E hex other than 7C", which `/` and space are
pub record Fit (p q : ℕ) : Type 0 where
  pub p_low : 0x20 ≤ p
  pub p_high : p ≤ 0x7E
  pub p-pipe : p ≡ pipe → ⊥
  pub q_low : 0x20 ≤ q
  pub q_high : q ≤ 0x7E
  pub q-pipe : q ≡ pipe → ⊥

-- what holds of each byte keeps a byte out
pub lack : (P : ℕ → Type 0) (c : ℕ) → (P c → ⊥) → (s : List ℕ) → All P s → count c s ≡ 0
unfolding keep
lack P c n [] h = refl
lack P c n (b ∷ s) h = picked (λ (k : List ℕ). length k ≡ 0) (eqb b c) (λ e. absurd (n (subst P (eqb-true b c e) h.0))) (λ _. lack P c n s h.1)

-- neither a pipe nor a line break
abbrev pub Free : ℕ → Type 0
Free b = (b ≡ pipe → ⊥) × (b ≡ 0x0D → ⊥) × (b ≡ 0x0A → ⊥)

pub free_clean : (p q : ℕ) → Fit p q → (s : List ℕ) → All Free (clean p q s)
unfolding clean
free_clean p q f [] = tt
free_clean p q f (b ∷ s) = (
  picked Free (eqb b pipe) (λ e. (f.p-pipe, (λ z. (let l = f.p_low in omega arith)), (λ z. (let l = f.p_low in omega arith)))) λ n.
      picked Free (eqb b 0x0D || eqb b 0x0A) (λ e. (f.q-pipe, (λ z. (let l = f.q_low in omega arith)), (λ z. (let l = f.q_low in omega arith)))) λ m.
      (let k = or_none (eqb b 0x0D) (eqb b 0x0A) m in (eqb-false b pipe n, eqb-false b 0x0D k.0, eqb-false b 0x0A k.1)),
  free_clean p q f s,
)

-- cleaning changes nothing else
pub clean-same : (p q : ℕ) (s : List ℕ) → All Free s → clean p q s ≡ s
unfolding clean
clean-same p q [] h = refl
clean-same p q (b ∷ s) h = simp (ne_eqb b pipe h.0.0, ne_eqb b 0x0D h.0.1, ne_eqb b 0x0A h.0.2, clean-same p q s h.1)

pub clean-clean : (p q : ℕ) → Fit p q → (s : List ℕ) → clean p q (clean p q s) ≡ clean p q s
clean-clean p q f s = clean-same p q (clean p q s) (free_clean p q f s)

-- no pipe in what is free
pub free_pipe : (s : List ℕ) → All Free s → count pipe s ≡ 0
free_pipe s h = lack Free pipe (λ k. k.0 refl) s h

-- Names

pub all_without : (P : ℕ → Type 0) (c : ℕ) (s : List ℕ) → All P s → All P (without c s)
all_without P c s h = all_keep P P _ (λ _ k _. k) s h

pub without-none : (c : ℕ) (s : List ℕ) → All (λ (b : ℕ). b ≡ c → ⊥) (without c s)
without-none c s = all-kept (λ (b : ℕ). b ≡ c → ⊥) (λ (b : ℕ). not (eqb b c)) (λ b e. eqb-false b c (not-true _ e)) s

without-same : (c : ℕ) (s : List ℕ) → All (λ (b : ℕ). b ≡ c → ⊥) s → without c s ≡ s
unfolding keep
without-same c [] h = refl
without-same c (b ∷ s) h = simp (ne_eqb b c h.0, without-same c s h.1)

pub free_name : (p q : ℕ) → Fit p q → (s : List ℕ) → All Free (clean_name p q s)
free_name p q f s = all_without Free 0x2C (clean p q s) (free_clean p q f s)

pub name_comma : (p q : ℕ) (s : List ℕ) → count 0x2C (clean_name p q s) ≡ 0
name_comma p q s = lack (λ (b : ℕ). b ≡ 0x2C → ⊥) 0x2C (λ k. k refl) (clean_name p q s) (without-none 0x2C (clean p q s))

pub name_name : (p q : ℕ) → Fit p q → (s : List ℕ) → clean_name p q (clean_name p q s) ≡ clean_name p q s
name_name p q f s =
    ap (without 0x2C) (clean-same p q (clean_name p q s) (free_name p q f s)) ∙ without-same 0x2C (clean_name p q s) (without-none 0x2C (clean p q s))

-- Bids: the byte c at the end, which is `!`

module _ (c : ℕ) where
  only-last : (s : List ℕ) → only c (s ++ c ∷ []) ≡ only c s
  unfolding all
  only-last [] = simp (eq-eqb c c refl)
  only-last (b ∷ s) = simp (only-last s)

  without-last : (s : List ℕ) → without_end c (s ++ c ∷ []) ≡ without_end c s
  unfolding without_end all
  without-last [] = simp (eq-eqb c c refl)
  without-last (b ∷ s) = simp (only-last s, without-last s)

  ends_last : (s : List ℕ) → ends_in c (s ++ c ∷ []) ≡ true
  unfolding ends_in
  ends_last [] = eq-eqb c c refl
  ends_last (b ∷ []) = eq-eqb c c refl
  ends_last (b ∷ d ∷ s) = ends_last (d ∷ s)

  -- with the mark or without
  pub without-mark : (s : List ℕ) (t : Bool) → without_end c (s ++ pick t (c ∷ []) []) ≡ without_end c s
  without-mark s true = without-last s
  without-mark s false = simp append-nil

  pub ends-mark : (s : List ℕ) (t : Bool) → ends_in c (s ++ pick t (c ∷ []) []) ≡ (t || ends_in c s)
  ends-mark s true = ends_last s
  ends-mark s false = simp append-nil

  -- what is left is the front
  pub without-front : (s t : List ℕ) → take (length (without_end c s)) (s ++ t) ≡ without_end c s
  unfolding without_end
  without-front [] t = refl
  without-front (b ∷ s) t = go (only c (b ∷ s)) refl (without-front s t)
    where
      go : (u : Bool) → only c (b ∷ s) ≡ u → take (length (without_end c s)) (s ++ t) ≡ without_end c s
          → take (length (without_end c (b ∷ s))) (b ∷ (s ++ t)) ≡ without_end c (b ∷ s)
      go true e ih = simp e
      go false e ih = simp e (ap (λ (r : List ℕ). b ∷ r) ih)

  pub all-without_end : (P : ℕ → Type 0) (s : List ℕ) → All P s → All P (without_end c s)
  unfolding without_end
  all-without_end P [] h = tt
  all-without_end P (b ∷ s) h = picked (All P) (only c (b ∷ s)) (λ _. tt) (λ _. (h.0, all-without_end P s h.1))

  only-ends : (b : ℕ) (s : List ℕ) → ends_in c (b ∷ s) ≡ false → only c (b ∷ s) ≡ false
  unfolding all ends_in
  only-ends b [] h = simp h
  only-ends b (d ∷ s) h = simp (only-ends d s h, and-false)

  -- no mark is left, and where there is none nothing goes
  pub without-same-end : (s : List ℕ) → ends_in c s ≡ false → without_end c s ≡ s
  unfolding without_end ends_in
  without-same-end [] h = refl
  without-same-end (b ∷ []) h = simp (only-ends b [] h)
  without-same-end (b ∷ d ∷ s) h = simp (only-ends b (d ∷ s) h, without-same-end (d ∷ s) h)

  pub without-ends : (s : List ℕ) → ends_in c (without_end c s) ≡ false
  unfolding without_end all ends_in
  without-ends [] = refl
  without-ends (b ∷ s) = go (only c (b ∷ s)) refl (without_end c s) refl (without-ends s)
    where
      nil : (t : List ℕ) → without_end c t ≡ [] → only c t ≡ true
      nil [] e = refl
      nil (d ∷ t) e =
          picked (λ x. x ≡ [] → only c (d ∷ t) ≡ true) (only c (d ∷ t)) (λ h _. h) (λ h k. let z : ◌≡◌ {A = ℕ} 0 1 = cc in absurd (omega arith)) e

      go : (u : Bool) → only c (b ∷ s) ≡ u → (t : List ℕ) → without_end c s ≡ t → ends_in c (without_end c s) ≡ false → ends_in c (pick u [] (b ∷ without_end c s)) ≡ false
      go true e t k ih = refl
      go false e [] k ih = rw k (simp (nil s k, and-true) at e)
      go false e (d ∷ t) k ih = rw k (rw k at ih)
