-- A byte put many times, the ranks of a suit, and the length of a hand's text. (01: Writer, md)
-- Assumes nothing.
use Prim.Native.Nat.{ℕ, zero, suc, ◌+◌, ◌-◌, ◌*◌, ◌≤◌, ◌<◌}
use native.Mathlib.Numerals.{add-one}
use native.Mathlib.Omega.{arith}
use mathlib.Core.Path.{◌≡◌, refl, ap, sym, subst, ◌∙◌}
use mathlib.Core.List.{List, [], ◌∷◌, ◌++◌, append-nil, append_assoc}
use lib.ListN.{length, get_or, take, drop, replicate, length-append, length-replicate, length-take, length-drop, drop_of_length-le}
use lib.Seq.{drop-drop, get_or-drop}
use borrow.Rule.Slice.PartMut.{put_mid}
use borrow.Author.Tests.{eq-eqb, ne_eqb}
use Rattle.lin_spec.specs.Base.{ascii}
use Rattle.lin_spec.specs.Output.{overlay}
use Rattle.lin_spec.specs.Records.{part}
use Rattle.lin_spec.specs.Cards.{sum}
use Rattle.lin_spec.specs.Letters.{seat_number, hand_at, hand_length}
use Rattle.lin_spec.specs.Writer.{ranks_from, suit_text, hand_text}
use Rattle.lin_spec.specs.declared.Seat.{Seat}
use Rattle.cards.proofs.HandLaws.{count_at}
use Rattle.output.specs.Put.{Put}
use Rattle.output.proofs.Laws.{Left, overlay-nil}
use Rattle.writer_cards.specs.Hands.{suits_text}

-- A byte n times

-- a part of n places that is filled with it
pub repeat_put : (d : List ℕ) (at n k b : ℕ) (s : List ℕ) → at + n ≤ length d → k ≡ n → s ≡ replicate (length (take k (drop at d))) b
    → Put d at (replicate n b) (put_mid at k d s) (at + n)
unfolding overlay
repeat_put d at n k b s h e f =
    let long : length (take k (drop at d)) ≡ n = omega (arith, length-take k (drop at d), length-drop at d) in
    let all : s ≡ replicate n b = f ∙ ap (λ (m : ℕ). replicate m b) long in
    let q : at + k ≡ at + length (replicate n b) = omega (arith, length-replicate n b) in
    record {
      next = omega (arith, length-replicate n b);
      text =
          ap (λ (x : List ℕ). put_mid at k d x) all
          ∙ sym (append_assoc (take at d) (replicate n b) (drop k (drop at d)))
          ∙ ap (λ (x : List ℕ). take at d ++ replicate n b ++ x) (drop-drop k at d ∙ ap (λ (m : ℕ). drop m d) q);
    }

-- a byte that stands never, or once
pub repeat_none : (d : List ℕ) (at n b : ℕ) → n ≡ 0 → Put d at (replicate n b) d at
repeat_none d at n b e = rw e (record { next = omega arith; text = sym (overlay-nil d at) })

pub repeat_once : (n b : ℕ) → n ≡ 1 → replicate n b ≡ b ∷ []
repeat_once n b e = rw e

-- Ranks from A down

-- the rank r of a suit in a deal, with its letter, and those below it
ranks_cons : (d : List ℕ) (seat suit r n b : ℕ) → r < 13 → suit < 4 → n ≡ get_or d (seat * 52 + suit * 13 + r) 0
    → b ≡ get_or (ascii "23456789TJQKA") r 0
    → ranks_from (part d (seat * 52) 52) (suit * 13) (r + 1) ≡ replicate n b ++ ranks_from (part d (seat * 52) 52) (suit * 13) r
unfolding ranks_from
ranks_cons d seat suit r n b h l en eb =
    let i : ℕ = suit * 13 + r in
    let z : seat * 52 + suit * 13 + r ≡ seat * 52 + i = omega arith in
    let e : get_or (part d (seat * 52) 52) i 0 ≡ n = sym (count_at d (seat * 52) 52 i (omega arith)) ∙ ap (λ (j : ℕ). get_or d j 0) (sym z) ∙ sym en in
    rw (add-one, e, ← eb) refl

-- what is left to write of the ranks below r, one taken off
pub ranks-left : (d : List ℕ) (seat suit r n b : ℕ) → 0 < r → r ≤ 13 → suit < 4 → n ≡ get_or d (seat * 52 + suit * 13 + (r - 1)) 0
    → b ≡ get_or (ascii "23456789TJQKA") (r - 1) 0 → {o : List ℕ} {pos : ℕ} {o₀ : List ℕ} {at : ℕ} {whole : List ℕ}
    → Left o pos (ranks_from (part d (seat * 52) 52) (suit * 13) r) o₀ at whole
    → Left o pos (replicate n b ++ ranks_from (part d (seat * 52) 52) (suit * 13) (r - 1)) o₀ at whole
ranks-left d seat suit r n b h m l en eb {o} {pos} {o₀} {at} {whole} v =
    let e : r ≡ r - 1 + 1 = omega arith in
    subst (λ (x : List ℕ). Left o pos x o₀ at whole) (ap (λ (k : ℕ). ranks_from (part d (seat * 52) 52) (suit * 13) k) e ∙ ranks_cons d seat suit (r - 1) n b (omega arith) l en eb) v

-- a suit's letter, and its ranks
pub suit_is : (h : List ℕ) (u b : ℕ) → b ≡ get_or (ascii "SHDC") u 0 → suit_text h u ≡ (b ∷ []) ++ ranks_from h (u * 13) 13
unfolding suit_text
suit_is h u b e = ap (λ (x : ℕ). x ∷ ranks_from h (u * 13) 13) (sym e)

-- no rank is left
pub ranks-end : (h : List ℕ) (first r : ℕ) → r ≤ 0 → ranks_from h first r ≡ []
unfolding ranks_from
ranks-end h first r l = let z : r ≡ 0 = omega arith in rw z refl

-- The length of a hand's text

sum-take : (l : List ℕ) (r : ℕ) → sum (take (suc r) l) ≡ get_or l r 0 + sum (take r l)
unfolding sum
sum-take [] zero = refl
sum-take [] (suc r) = refl
sum-take (a ∷ l) zero = refl
sum-take (a ∷ l) (suc r) = let ih = sum-take l r in omega arith

sum-split : (n : ℕ) (l : List ℕ) → sum (take n l) + sum (drop n l) ≡ sum l
unfolding sum
sum-split zero l = omega arith
sum-split (suc n) [] = refl
sum-split (suc n) (a ∷ l) = let ih = sum-split n l in omega arith

ranks-long : (h : List ℕ) (first r : ℕ) → length (ranks_from h first r) ≡ sum (take r (drop first h))
unfolding ranks_from sum
ranks-long h first zero = refl
ranks-long h first (suc r) =
    let n : ℕ = get_or h (first + r) 0 in
    let x : ℕ = get_or (ascii "23456789TJQKA") r 0 in
    omega (arith, length-append (replicate n x) (ranks_from h first r), length-replicate n x, sum-take (drop first h) r, get_or-drop first h r 0, ranks-long h first r)

suit_long : (h : List ℕ) (u : ℕ) → length (suit_text h u) ≡ 1 + sum (take 13 (drop (u * 13) h))
unfolding suit_text
suit_long h u = let e = ranks-long h (u * 13) 13 in omega arith

-- a hand has a byte for each suit and for each card
pub suits_long : (h : List ℕ) → length h ≤ 52 → length (suits_text h) ≡ sum h + 4
unfolding suits_text
suits_long h l =
    let a = sum-split 13 h in
    let b = rw (drop-drop 13 13 h) at (sum-split 13 (drop 13 h)) in
    let c = rw (drop-drop 13 26 h) at (sum-split 13 (drop 26 h)) in
    let d = rw (drop-drop 13 39 h) at (sum-split 13 (drop 39 h)) in
    let z : sum (drop 52 h) ≡ 0 = unfold sum in ap sum (drop_of_length-le h l) in
    simp (append-nil, length-append, suit_long) (omega arith)

module _ (h : List ℕ) where
  -- an empty hand has no text
  pub hand-none : (n : ℕ) → n ≡ sum h → n ≡ 0 → hand_text h ≡ []
  unfolding hand_text
  hand-none n e k = simp (eq-eqb (sum h) 0 (sym e ∙ k))

  -- another has that of its suits
  pub hand-some : (n : ℕ) → n ≡ sum h → (n ≡ 0 → ⊥) → hand_text h ≡ suits_text h
  unfolding hand_text suits_text
  hand-some n e k = simp (append-nil, ne_eqb (sum h) 0 (λ z. k (e ∙ z)))

-- which are those at its seat's place
pub hand_suits : (d : List ℕ) (x : Seat) (n k : ℕ) → n ≡ hand_length d x → (n ≡ 0 → ⊥) → k ≡ seat_number x → hand_text (hand_at d x) ≡ suits_text (part d (k * 52) 52)
hand_suits d x n k e h f = hand-some (hand_at d x) n e h ∙ ap (λ (j : ℕ). suits_text (part d (j * 52) 52)) (sym f)
