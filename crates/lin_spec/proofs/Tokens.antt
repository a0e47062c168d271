-- Laws of tokens: what is read is written back, and what is written is read again, exactly when it can be (D2a to D2c). (01: Tokens)
-- Assumes nothing.
use Prim.Native.Nat.{ℕ, zero, suc, ◌+◌, ◌/◌, ◌≤◌, ◌<◌}
use native.Mathlib.Nat.{not-suc-le-zero, le_of_suc-le-suc}
use native.Mathlib.Omega.{arith}
use mathlib.Core.Path.{◌≡◌, refl, ap, sym, subst, ◌∙◌}
use mathlib.Core.Bool.{Bool, true, false}
use mathlib.Core.List.{List, [], ◌∷◌, ◌++◌, append-nil}
use lib.ListN.{length, get_or}
use lib.Dec.{eqb}
use borrow.Author.Tests.{eq-eqb, eqb-true}
use Rattle.lin_spec.specs.Base.{pick, keep}
use Rattle.lin_spec.specs.Tokens.{Pieces, Token, cut, push, count, paired, left, tokens, trailing, write, NoPipes, pipe}
use Rattle.lin_spec.specs.Tokens.Pieces.{end, piece}
use Rattle.lin_spec.specs.Tokens.TokenOf.{token}

-- Cutting

-- the pieces with a c between each two
unfoldable pub joined : (c : ℕ) → Pieces → List ℕ
joined c (end x) = x
joined c (piece x r) = x ++ c ∷ joined c r

-- how many pieces have another after them
unfoldable pub cuts : Pieces → ℕ
cuts (end x) = 0
cuts (piece x r) = suc (cuts r)

-- no piece holds a c
unfoldable pub Whole : (c : ℕ) → Pieces → Type 0
Whole c (end x) = count c x ≡ 0
Whole c (piece x r) = (count c x ≡ 0) × Whole c r

joined-push : (c b : ℕ) (p : Pieces) → joined c (push b p) ≡ b ∷ joined c p
unfolding joined
joined-push c b (end x) = refl
joined-push c b (piece x r) = refl

cuts-push : (b : ℕ) (p : Pieces) → cuts (push b p) ≡ cuts p
unfolding cuts
cuts-push b (end x) = refl
cuts-push b (piece x r) = refl

whole-push : (c b : ℕ) (p : Pieces) → eqb b c ≡ false → Whole c p → Whole c (push b p)
unfolding Whole keep
whole-push c b (end x) e h = simp e h
whole-push c b (piece x r) e h = (simp e h.0, h.1)

-- A text is its pieces with a c between each two, and no piece holds a c: so the pieces are those of 01.
pub joined-cut : (c : ℕ) (s : List ℕ) → joined c (cut c s) ≡ s
unfolding joined cut
joined-cut c [] = refl
joined-cut c (b ∷ s) = go (eqb b c) refl (joined-cut c s)
  where
    go : (t : Bool) → eqb b c ≡ t → joined c (cut c s) ≡ s → joined c (cut c (b ∷ s)) ≡ b ∷ s
    go true e ih = simp (e, ih) (ap (λ (x : ℕ). x ∷ s) (sym (eqb-true b c e)))
    go false e ih = simp (e, joined-push, ih)

pub whole-cut : (c : ℕ) (s : List ℕ) → Whole c (cut c s)
unfolding Whole cut keep
whole-cut c [] = refl
whole-cut c (b ∷ s) = go (eqb b c) refl (whole-cut c s)
  where
    go : (t : Bool) → eqb b c ≡ t → Whole c (cut c s) → Whole c (cut c (b ∷ s))
    go true e ih = simp e (refl, ih)
    go false e ih = simp e (whole-push c b (cut c s) e ih)

pub cuts-cut : (c : ℕ) (s : List ℕ) → cuts (cut c s) ≡ count c s
unfolding cuts cut keep
cuts-cut c [] = refl
cuts-cut c (b ∷ s) = go (eqb b c) refl (cuts-cut c s)
  where
    go : (t : Bool) → eqb b c ≡ t → cuts (cut c s) ≡ count c s → cuts (cut c (b ∷ s)) ≡ count c (b ∷ s)
    go true e ih = simp (e, ih)
    go false e ih = simp (e, cuts-push, ih)

-- a text with no c, then a c, is cut there
pub cut-piece : (c : ℕ) (x t : List ℕ) → count c x ≡ 0 → cut c (x ++ c ∷ t) ≡ piece x (cut c t)
unfolding cut keep
cut-piece c [] t h = simp (eq-eqb c c refl)
cut-piece c (b ∷ x) t h = go (eqb b c) refl (cut-piece c x t)
  where
    go : (u : Bool) → eqb b c ≡ u → (count c x ≡ 0 → cut c (x ++ c ∷ t) ≡ piece x (cut c t))
        → cut c (b ∷ (x ++ c ∷ t)) ≡ piece (b ∷ x) (cut c t)
    go true e ih = let z : suc (count c x) ≡ 0 = simp e at h in absurd (omega arith)
    go false e ih = simp (e, ih (simp e at h))

-- a text without a c is one piece
pub cut-none : (c : ℕ) (x : List ℕ) → count c x ≡ 0 → cut c x ≡ end x
unfolding cut keep
cut-none c [] h = refl
cut-none c (b ∷ x) h = go (eqb b c) refl (cut-none c x)
  where
    go : (u : Bool) → eqb b c ≡ u → (count c x ≡ 0 → cut c x ≡ end x) → cut c (b ∷ x) ≡ end (b ∷ x)
    go true e ih = let z : suc (count c x) ≡ 0 = simp e at h in absurd (omega arith)
    go false e ih = simp (e, ih (simp e at h))

-- the pieces of a text are the only ones
pub cut-joined : (c : ℕ) (p : Pieces) → Whole c p → cut c (joined c p) ≡ p
unfolding joined Whole
cut-joined c (end x) h = cut-none c x h
cut-joined c (piece x r) h = cut-piece c x (joined c r) h.0 ∙ ap (piece x) (cut-joined c r h.1)

-- D2a: writing a text's document returns that text

write-joined : (p : Pieces) → write (paired p) (left p) ≡ joined pipe p
unfolding joined write paired left
write-joined (end x) = refl
write-joined (piece x (end y)) = refl
write-joined (piece x (piece y r)) = simp (write-joined r)

pub written_back : (s : List ℕ) → write (tokens s) (trailing s) ≡ s
unfolding tokens trailing
written_back s = write-joined (cut pipe s) ∙ joined-cut pipe s

-- D2c: p pipes give p / 2 tokens, and token k is the pieces 2k and 2k + 1, counted from 0

half_suc : (n : ℕ) → suc (n / 2) ≡ suc (suc n) / 2
half_suc n = omega arith

length-paired : (p : Pieces) → length (paired p) ≡ cuts p / 2
unfolding cuts paired
length-paired (end x) = refl
length-paired (piece x (end y)) = refl
length-paired (piece x (piece y r)) = ap suc (length-paired r) ∙ half_suc (cuts r)

pub half_as_many : (s : List ℕ) → length (tokens s) ≡ count pipe s / 2
unfolding tokens
half_as_many s = length-paired (cut pipe s) ∙ ap (λ (n : ℕ). n / 2) (cuts-cut pipe s)

-- piece i, counted from 0: what stands before pipe i + 1 and after pipe i
unfoldable pub piece_at : Pieces → ℕ → List ℕ
piece_at (end x) i = x
piece_at (piece x r) zero = x
piece_at (piece x r) (suc i) = piece_at r i

token-paired : (p : Pieces) (k : ℕ) → k < length (paired p)
    → get_or (paired p) k (token [] []) ≡ token (piece_at p (k + k)) (piece_at p (suc (k + k)))
unfolding paired piece_at
token-paired (end x) k h = absurd (not-suc-le-zero h)
token-paired (piece x (end y)) k h = absurd (not-suc-le-zero h)
token-paired (piece x (piece y r)) zero h = refl
token-paired (piece x (piece y r)) (suc k) h =
    let e : suc k + suc k ≡ suc (suc (k + k)) = omega arith in
    rw e (token-paired r k (le_of_suc-le-suc h))

pub token-is : (s : List ℕ) (k : ℕ) → k < length (tokens s)
    → get_or (tokens s) k (token [] []) ≡ token (piece_at (cut pipe s) (k + k)) (piece_at (cut pipe s) (suc (k + k)))
unfolding tokens
token-is s k h = token-paired (cut pipe s) k h

-- D2b: reading a written document returns it exactly when no command or value holds a pipe and the trailing text at most one

few-paired : (p : Pieces) → cuts p ≤ 1 → paired p ≡ []
unfolding cuts paired
few-paired (end x) h = refl
few-paired (piece x (end y)) h = refl
few-paired (piece x (piece y r)) h = absurd (not-suc-le-zero (le_of_suc-le-suc h))

few-left : (p : Pieces) → cuts p ≤ 1 → left p ≡ joined pipe p
unfolding cuts left joined
few-left (end x) h = refl
few-left (piece x (end y)) h = refl
few-left (piece x (piece y r)) h = absurd (not-suc-le-zero (le_of_suc-le-suc h))

-- the tokens of ts and then those of what follows them, whatever it is
pub tokens-write : (ts : List Token) (x : List ℕ) → NoPipes ts → tokens (write ts x) ≡ ts ++ tokens x
unfolding tokens write NoPipes paired
tokens-write [] x h = refl
tokens-write (token c v ∷ ts) x h =
    simp (cut-piece pipe c (v ++ pipe ∷ write ts x) h.0, cut-piece pipe v (write ts x) h.1, tokens-write ts x h.2)

pub trailing-write : (ts : List Token) (x : List ℕ) → NoPipes ts → trailing (write ts x) ≡ trailing x
unfolding trailing write NoPipes left
trailing-write [] x h = refl
trailing-write (token c v ∷ ts) x h =
    simp (cut-piece pipe c (v ++ pipe ∷ write ts x) h.0, cut-piece pipe v (write ts x) h.1, trailing-write ts x h.2)

few-tokens : (x : List ℕ) → count pipe x ≤ 1 → tokens x ≡ []
unfolding tokens
few-tokens x h = few-paired (cut pipe x) (rw (cuts-cut pipe x) h)

few-trailing : (x : List ℕ) → count pipe x ≤ 1 → trailing x ≡ x
unfolding trailing
few-trailing x h = few-left (cut pipe x) (rw (cuts-cut pipe x) h) ∙ joined-cut pipe x

-- what is read has this form
paired_no_pipes : (p : Pieces) → Whole pipe p → NoPipes (paired p)
unfolding Whole NoPipes paired
paired_no_pipes (end x) h = tt
paired_no_pipes (piece x (end y)) h = tt
paired_no_pipes (piece x (piece y r)) h = (h.0, h.1.0, paired_no_pipes r h.1.1)

pub count-append : (c : ℕ) (x y : List ℕ) → count c (x ++ y) ≡ count c x + count c y
unfolding keep
count-append c [] y = omega arith
count-append c (b ∷ x) y = go (eqb b c) (count-append c x y)
  where
    go : (t : Bool) → count c (x ++ y) ≡ count c x + count c y
        → length (pick t (b ∷ keep (λ d. eqb d c) (x ++ y)) (keep (λ d. eqb d c) (x ++ y))) ≡ length (pick t (b ∷ keep (λ d. eqb d c) x) (keep (λ d. eqb d c) x)) + count c y
    go true ih = omega arith
    go false ih = ih

left-few : (p : Pieces) → Whole pipe p → count pipe (left p) ≤ 1
unfolding Whole left keep
left-few (end x) h = omega arith
left-few (piece x (end y)) h = omega (arith, h.0, h.1, count-append pipe x (pipe ∷ y))
left-few (piece x (piece y r)) h = left-few r h.1.1

pub tokens_no_pipes : (s : List ℕ) → NoPipes (tokens s)
unfolding tokens
tokens_no_pipes s = paired_no_pipes (cut pipe s) (whole-cut pipe s)

pub trailing-few : (s : List ℕ) → count pipe (trailing s) ≤ 1
unfolding trailing
trailing-few s = left-few (cut pipe s) (whole-cut pipe s)

-- a document, and what a text is read as
pub record ReadsBack (ts : List Token) (tr s : List ℕ) : Type 0 where
  pub toks : tokens s ≡ ts
  pub rest : trailing s ≡ tr

-- the buyer's condition
pub record Plain (ts : List Token) (tr : List ℕ) : Type 0 where
  pub none : NoPipes ts
  pub few : count pipe tr ≤ 1

pub read-written : (ts : List Token) (tr : List ℕ) → Plain ts tr → ReadsBack ts tr (write ts tr)
read-written ts tr h =
    record {
      toks = tokens-write ts tr h.none ∙ simp (few-tokens tr h.few, append-nil);
      rest = trailing-write ts tr h.none ∙ few-trailing tr h.few;
    }

pub read-written-only : (ts : List Token) (tr : List ℕ) → ReadsBack ts tr (write ts tr) → Plain ts tr
read-written-only ts tr h =
    record {
      none = subst NoPipes h.toks (tokens_no_pipes (write ts tr));
      few = rw h.rest at (trailing-few (write ts tr));
    }
