-- The text of a play card by card, and its length. (01: play text)
-- Assumes nothing.
use Prim.Native.Nat.{ℕ, suc, ◌+◌, ◌-◌, ◌*◌, ◌%◌, ◌≤◌, ◌<◌}
use native.Mathlib.Numerals.{add-one}
use native.Mathlib.Omega.{arith}
use mathlib.Core.Path.{◌≡◌, refl, ap, sym, ◌∙◌}
use mathlib.Core.List.{List, [], ◌∷◌, ◌++◌, map, append-nil}
use lib.ListN.{length, get_or, drop, drop_of_length-le}
use lib.Seq.{drop-cons}
use lib.Dec.{eqb}
use borrow.Author.Tests.{eq-eqb, ne_eqb}
use Rattle.lin_spec.specs.Base.{ascii, join_by}
use Rattle.lin_spec.specs.Writer.{card_letters, tricks}
use Rattle.lin_spec.specs.Play.{trick_words, play_text}
use Rattle.lin_spec.proofs.Base.{picked}
use Rattle.writer_cards.specs.Tricks.{before_card}

-- the cards after `played` ones, each after what stands before it
unfoldable pub words_from : (played : ℕ) → List ℕ → List ℕ
words_from k [] = []
words_from k (c ∷ cs) = before_card k ++ (card_letters c ++ words_from (suc k) cs)

module _ (k : ℕ) (h : k ≡ 0 → ⊥) where
  -- between two tricks
  pub pipe-between : k % 4 ≡ 0 → before_card k ≡ ascii "|"
  unfolding before_card
  pipe-between e = simp (ne_eqb k 0 h, eq-eqb (k % 4) 0 e)

  -- within a trick
  pub space_between : (k % 4 ≡ 0 → ⊥) → before_card k ≡ ascii " "
  unfolding before_card
  space_between e = simp (ne_eqb k 0 h, ne_eqb (k % 4) 0 e)

-- before the first card
pub none_between : (k : ℕ) → k ≡ 0 → before_card k ≡ []
unfolding before_card
none_between k e = simp (eq-eqb k 0 e)

-- tricks with a pipe before each
unfoldable piped : List (List ℕ) → List ℕ
piped [] = []
piped (x ∷ xs) = ascii "|" ++ (x ++ piped xs)

join-piped : (x : List ℕ) (xs : List (List ℕ)) → join_by (ascii "|") (x ∷ xs) ≡ x ++ piped xs
unfolding join_by piped
join-piped x [] = sym (append-nil x)
join-piped x (y ∷ xs) = ap (λ (z : List ℕ). x ++ (ascii "|" ++ z)) (join-piped y xs)

-- the cards of further tricks
further : (k : ℕ) (cs : List ℕ) → (k ≡ 0 → ⊥) → k % 4 ≡ 0 → words_from k cs ≡ piped (map trick_words (tricks cs))
unfolding words_from piped tricks join_by
further k [] n h = refl
further k (a ∷ []) n h = rw (pipe-between k n h)
further k (a ∷ b ∷ []) n h = rw (pipe-between k n h, space_between (suc k) (λ p. omega arith) (λ p. omega arith))
further k (a ∷ b ∷ c ∷ []) n h =
    rw
    (pipe-between k n h, space_between (suc k) (λ p. omega arith) (λ p. omega arith), space_between (suc (suc k)) (λ p. omega arith) (λ p. omega arith))
further k (a ∷ b ∷ c ∷ d ∷ r) n h =
    rw
    (pipe-between k n h, space_between (suc k) (λ p. omega arith) (λ p. omega arith), space_between (suc (suc k)) (λ p. omega arith) (λ p. omega arith), space_between (suc (suc (suc k))) (λ p. omega arith) (λ p. omega arith), further (suc (suc (suc (suc k)))) r (λ p. omega arith) (omega arith))

-- all cards
pub play-from : (cs : List ℕ) → words_from 0 cs ≡ play_text cs
unfolding words_from play_text tricks join_by before_card
play-from [] = refl
play-from (a ∷ []) = refl
play-from (a ∷ b ∷ []) = refl
play-from (a ∷ b ∷ c ∷ []) = refl
play-from (a ∷ b ∷ c ∷ d ∷ r) = rw (join-piped (trick_words (a ∷ b ∷ c ∷ d ∷ [])) (map trick_words (tricks r)), further 4 r (λ p. omega arith) refl)

-- one card off the front
pub words_cons : (cs : List ℕ) (i : ℕ) → i < length cs
    → words_from i (drop i cs) ≡ before_card i ++ (card_letters (get_or cs i 0) ++ words_from (i + 1) (drop (i + 1) cs))
unfolding words_from
words_cons cs i h = rw (add-one, drop-cons cs i 0 h)

-- nothing after the last
pub words-end : (cs : List ℕ) (i : ℕ) → length cs ≤ i → words_from i (drop i cs) ≡ []
unfolding words_from
words-end cs i h = rw (drop_of_length-le cs h)

-- three bytes for each card after the first
words_long : (k : ℕ) (cs : List ℕ) → (k ≡ 0 → ⊥) → length (words_from k cs) ≡ 3 * length cs
unfolding words_from before_card
words_long k [] h = refl
words_long k (c ∷ cs) h =
    let ih = words_long (suc k) cs (λ p. omega arith) in
    simp (ne_eqb k 0 h) (picked (λ (x : List ℕ). length (x ++ (card_letters c ++ words_from (suc k) cs)) ≡ 3 * length (c ∷ cs)) (eqb (k % 4) 0) (λ _. omega arith) (λ _. omega arith))

-- and two for the first
pub play-long : (cs : List ℕ) → length (play_text cs) ≡ 3 * length cs - 1
play-long cs = ap length (sym (play-from cs)) ∙ go cs
  where
    go : (cs : List ℕ) → length (words_from 0 cs) ≡ 3 * length cs - 1
    go [] = unfold words_from in refl
    go (c ∷ cs) = let l = words_long 1 cs (λ p. omega arith) in unfold words_from in unfold before_card in omega arith
