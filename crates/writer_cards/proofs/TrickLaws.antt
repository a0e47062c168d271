-- Cards within their range, and the tricks of a play card by card, with their length. (01: Writer, pc and pg)
-- Assumes nothing.
use Prim.Native.Nat.{ℕ, zero, suc, ◌+◌, ◌*◌, ◌/◌, ◌%◌, ◌≤◌, ◌<◌}
use native.Mathlib.Nat.{not-suc-le-zero, le_of_suc-le-suc}
use native.Mathlib.Numerals.{add-one}
use native.Mathlib.Omega.{arith}
use mathlib.Core.Path.{◌≡◌, refl, sym}
use mathlib.Core.Bool.{true, false, ◌||◌, or-true}
use mathlib.Core.List.{List, [], ◌∷◌, ◌++◌}
use lib.ListN.{length, get_or, drop, drop_of_length-le}
use lib.Seq.{drop-cons}
use lib.Dec.{eqb, ltb}
use borrow.Author.Tests.{ltb-false, eq-eqb, ne_eqb}
use Rattle.lin_spec.specs.Base.{any, ascii, concat}
use Rattle.lin_spec.specs.Lent.{bad_cards}
use Rattle.lin_spec.specs.Writer.{card_letters, card_text, tricks, tricks_text}
use Rattle.lin_spec.proofs.Base.{or_none}
use Rattle.writer_cards.specs.Tricks.{trick_end}

-- Cards within their range

-- of a play without a card outside its range each card is below 52
pub good_card : (cs : List ℕ) → bad_cards cs ≡ false → (i : ℕ) → i < length cs → get_or cs i 0 < 52
unfolding any
good_card [] h i k = absurd (not-suc-le-zero k)
good_card (c ∷ cs) h zero k = let z = ltb-false 51 c (or_none (ltb 51 c) (any (ltb 51) cs) h).0 in omega arith
good_card (c ∷ cs) h (suc i) k = good_card cs (or_none (ltb 51 c) (any (ltb 51) cs) h).1 i (le_of_suc-le-suc k)

-- Tricks card by card

-- the cards after `played` ones of `all`, each in its pc, and what follows it
unfoldable pub tricks_from : (all played : ℕ) → List ℕ → List ℕ
tricks_from n k [] = []
tricks_from n k (c ∷ cs) = card_text c ++ (trick_end (suc k) n ++ tricks_from n (suc k) cs)

fourth : (k n : ℕ) → k % 4 ≡ 0 → trick_end k n ≡ ascii "pg||\n"
unfolding trick_end
fourth k n h = simp (eq-eqb (k % 4) 0 h)

last : (k n : ℕ) → k ≡ n → trick_end k n ≡ ascii "pg||\n"
unfolding trick_end
last k n h = simp (eq-eqb k n h, or-true)

other : (k n : ℕ) → (k % 4 ≡ 0 → ⊥) → (k ≡ n → ⊥) → trick_end k n ≡ []
unfolding trick_end
other k n h l = simp (ne_eqb (k % 4) 0 h, ne_eqb k n l)

-- they are the tricks
pub tricks-from : (n k : ℕ) (cs : List ℕ) → k % 4 ≡ 0 → k + length cs ≡ n → tricks_from n k cs ≡ tricks_text cs
unfolding tricks_from tricks_text tricks concat
tricks-from n k [] h e = refl
tricks-from n k (a ∷ []) h e = rw (last (suc k) n (omega arith))
tricks-from n k (a ∷ b ∷ []) h e = rw (other (suc k) n (λ p. omega arith) (λ p. omega arith), last (suc (suc k)) n (omega arith))
tricks-from n k (a ∷ b ∷ c ∷ []) h e =
    rw
    (other (suc k) n (λ p. omega arith) (λ p. omega arith), other (suc (suc k)) n (λ p. omega arith) (λ p. omega arith), last (suc (suc (suc k))) n (omega arith))
tricks-from n k (a ∷ b ∷ c ∷ d ∷ r) h e =
    rw
    (other (suc k) n (λ p. omega arith) (λ p. omega arith), other (suc (suc k)) n (λ p. omega arith) (λ p. omega arith), other (suc (suc (suc k))) n (λ p. omega arith) (λ p. omega arith), fourth (suc (suc (suc (suc k)))) n (omega arith), tricks-from n (suc (suc (suc (suc k)))) r (omega arith) (omega arith))

-- one card off the front
pub tricks_cons : (n : ℕ) (cs : List ℕ) (i : ℕ) → i < length cs
    → tricks_from n i (drop i cs) ≡ card_text (get_or cs i 0) ++ (trick_end (i + 1) n ++ tricks_from n (i + 1) (drop (i + 1) cs))
unfolding tricks_from
tricks_cons n cs i h = rw (add-one, drop-cons cs i 0 h)

-- nothing after the last
pub tricks-end : (n : ℕ) (cs : List ℕ) (i : ℕ) → length cs ≤ i → tricks_from n i (drop i cs) ≡ []
unfolding tricks_from
tricks-end n cs i h = rw (drop_of_length-le cs h)

-- six bytes for each card, and five for each trick
pub tricks-long : (cs : List ℕ) → length (tricks_text cs) ≡ 6 * length cs + 5 * ((length cs + 3) / 4)
unfolding tricks_text tricks concat
tricks-long [] = refl
tricks-long (a ∷ []) = refl
tricks-long (a ∷ b ∷ []) = refl
tricks-long (a ∷ b ∷ c ∷ []) = refl
tricks-long (a ∷ b ∷ c ∷ d ∷ r) = let ih = tricks-long r in omega arith

-- what follows a card, by the test of the code
module _ (k n : ℕ) where
  pub end-here : (eqb (k % 4) 0 || eqb k n) ≡ true → trick_end k n ≡ ascii "pg||\n"
  unfolding trick_end
  end-here h = simp h

  pub end_later : (eqb (k % 4) 0 || eqb k n) ≡ false → trick_end k n ≡ []
  unfolding trick_end
  end_later h = simp h

-- a card's letters, one after the other
pub letters_are : (c a b : ℕ) → a ≡ get_or (ascii "SHDC") (c / 13) 0 → b ≡ get_or (ascii "23456789TJQKA") (c % 13) 0 → card_letters c ≡ (a ∷ []) ++ (b ∷ [])
letters_are c a b e f = let p = sym e in let q = sym f in cc
