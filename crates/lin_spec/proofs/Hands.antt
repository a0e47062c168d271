-- Reading a written hand gives its counts back; its bytes are letters. (01: Writer; Board, md)
-- Assumes nothing.
use Rattle.std.specs.Prelude.{Option, None, Some}
use Prim.Native.Nat.{ℕ, zero, suc, ◌+◌, ◌*◌, ◌≤◌, ◌<◌}
use native.Mathlib.Nat.{add-zero, zero-add}
use native.Mathlib.Omega.{arith}
use mathlib.Core.Path.{◌≡◌, refl, ap, sym, ◌∙◌}
use mathlib.Core.Bool.{Bool, true, false, false≢true}
use mathlib.Core.List.{List, [], ◌∷◌, ◌++◌, append_assoc, append-nil}
use lib.ListN.{length, get_or, take, drop, replicate, length-append, length-take, length-drop, length-replicate, take-append-drop}
use lib.Seq.{set_at, get_or_at, append_snoc, take_all, take-suc, drop-drop, get_or-drop}
use lib.Dec.{eqb, leb}
use borrow.Author.Tests.{ne_eqb, eqb-true, leb-true}
use Rattle.lin_spec.specs.Base.{All, ascii, keep}
use Rattle.lin_spec.specs.White.{lower}
use Rattle.lin_spec.specs.Tokens.{count}
use Rattle.lin_spec.specs.Cards.{index_of, suit_of, rank_of, sum, hand_from, read_hand}
use Rattle.lin_spec.specs.Writer.{ranks_from, suit_text, hand_text}
use Rattle.lin_spec.proofs.Base.{picked, all_below, below, all_append}

abbrev rank_letter : ℕ → ℕ
rank_letter r = get_or (ascii "23456789TJQKA") r 0

-- an option that is none, or some n
abbrev is_none : Option ℕ → Bool
is_none None = true
is_none (Some n) = false

abbrev is_some : ℕ → Option ℕ → Bool
is_some n None = false
is_some n (Some m) = eqb m n

is-none : (o : Option ℕ) → is_none o ≡ true → o ≡ None
is-none None h = refl
is-none (Some n) h = absurd (false≢true h)

is-some : (n : ℕ) (o : Option ℕ) → is_some n o ≡ true → o ≡ Some n
is-some n None h = absurd (false≢true h)
is-some n (Some m) h = ap Some (eqb-true m n h)

rank_suit : (r : ℕ) → r < 13 → suit_of (rank_letter r) ≡ None
unfolding all_below suit_of index_of lower
rank_suit r h = is-none (suit_of (rank_letter r)) (below (λ n. is_none (suit_of (rank_letter n))) 13 refl r h)

rank-rank : (r : ℕ) → r < 13 → rank_of (rank_letter r) ≡ Some r
unfolding all_below rank_of index_of lower
rank-rank r h = is-some r (rank_of (rank_letter r)) (below (λ n. is_some n (rank_of (rank_letter n))) 13 refl r h)

-- a rank's letter as often as it is counted
many : (u r : ℕ) → r < 13 → (pre post : List ℕ) → length pre ≡ u * 13 + r → (a n : ℕ) (t : List ℕ)
    → hand_from (Some u) (pre ++ a ∷ post) (replicate n (rank_letter r) ++ t) ≡ hand_from (Some u) (pre ++ (a + n) ∷ post) t
unfolding hand_from
many u r h pre post e a zero t = ap (λ (m : ℕ). hand_from (Some u) (pre ++ m ∷ post) t) (sym (add-zero a))
many u r h pre post e a (suc n) t =
    let q : a + 1 + n ≡ a + suc n = omega arith in
    simp (rank_suit r h, rank-rank r h, get_or_at pre a post 0 (u * 13 + r) e, set_at pre a post (a + 1) (u * 13 + r) e)
    (many u r h pre post e (a + 1) n t ∙ ap (λ (m : ℕ). hand_from (Some u) (pre ++ m ∷ post) t) q)

-- a suit's ranks from A down fill its places
snoc_zero : (r : ℕ) (post : List ℕ) → replicate (suc r) 0 ++ post ≡ replicate r 0 ++ (0 ∷ post)
snoc_zero zero post = refl
snoc_zero (suc r) post = ap (λ (x : List ℕ). 0 ∷ x) (snoc_zero r post)

ranks : (h : List ℕ) (u r : ℕ) → r ≤ 13 → u * 13 + r ≤ length h → (pre post t : List ℕ) → length pre ≡ u * 13
    → hand_from (Some u) (pre ++ (replicate r 0 ++ post)) (ranks_from h (u * 13) r ++ t) ≡ hand_from (Some u) (pre ++ (take r (drop (u * 13) h) ++ post)) t
unfolding ranks_from
ranks h u zero k w pre post t e = refl
ranks h u (suc r) k w pre post t e =
    let n = get_or h (u * 13 + r) 0 in
    let l : length (pre ++ replicate r 0) ≡ u * 13 + r = length-append pre (replicate r 0) ∙ (let z : length (replicate {A = ℕ} r 0) ≡ r = length-replicate r 0 in omega arith) in
    let a : pre ++ (replicate (suc r) 0 ++ post) ≡ (pre ++ replicate r 0) ++ 0 ∷ post = ap (λ (x : List ℕ). pre ++ x) (snoc_zero r post) ∙ sym (append_assoc pre (replicate r 0) (0 ∷ post)) in
    let b : take (suc r) (drop (u * 13) h) ++ post ≡ take r (drop (u * 13) h) ++ n ∷ post =
    ap (λ (x : List ℕ). x ++ post) (take-suc (drop (u * 13) h) r 0 (let z = length-drop (u * 13) h in omega arith) ∙ ap (λ (x : ℕ). take r (drop (u * 13) h) ++ (x ∷ [])) (get_or-drop (u * 13) h r 0)) ∙ append_snoc (take r (drop (u * 13) h)) n post in
    ap (λ (x : List ℕ). hand_from (Some u) x (ranks_from h (u * 13) (suc r) ++ t)) a
    ∙ ap (hand_from (Some u) ((pre ++ replicate r 0) ++ 0 ∷ post)) (append_assoc (replicate n (rank_letter r)) (ranks_from h (u * 13) r) t)
    ∙ many u r (omega arith) (pre ++ replicate r 0) post l 0 n (ranks_from h (u * 13) r ++ t)
    ∙ ap (λ (x : List ℕ). hand_from (Some u) x (ranks_from h (u * 13) r ++ t)) (append_assoc pre (replicate r 0) _ ∙ ap (λ (m : ℕ). pre ++ (replicate r 0 ++ m ∷ post)) (zero-add n))
    ∙ ranks h u r (omega arith) (omega arith) pre (n ∷ post) t e
    ∙ ap (λ (x : List ℕ). hand_from (Some u) (pre ++ x) t) (sym b)

hand_letter : (b u : ℕ) → suit_of b ≡ Some u → (o : Option ℕ) (g t : List ℕ) → hand_from o g (b ∷ t) ≡ hand_from (Some u) g t
unfolding hand_from
hand_letter b u k o g t = simp k

suit : (h : List ℕ) (u : ℕ) → suit_of (get_or (ascii "SHDC") u 0) ≡ Some u → length h ≡ 52 → u ≤ 3 → (o : Option ℕ) (pre post t : List ℕ) → length pre ≡ u * 13
    → hand_from o (pre ++ (replicate 13 0 ++ post)) (suit_text h u ++ t) ≡ hand_from (Some u) (pre ++ (take 13 (drop (u * 13) h) ++ post)) t
unfolding suit_text
suit h u k l m o pre post t e = hand_letter (get_or (ascii "SHDC") u 0) u k o _ _ ∙ ranks h u 13 (omega arith) (omega arith) pre post t e

-- a list in four parts of n
pub quarters : (n : ℕ) (h : List ℕ) → length h ≡ 4 * n → take n (drop 0 h) ++ (take n (drop (1 * n) h) ++ (take n (drop (2 * n) h) ++ take n (drop (3 * n) h))) ≡ h
quarters n h l =
    let x3 : take n (drop (3 * n) h) ≡ drop (3 * n) h = take_all n (drop (3 * n) h) (simp length-drop (omega arith)) in
    let e3 : 2 * n + n ≡ 3 * n = omega arith in
    let e2 : 1 * n + n ≡ 2 * n = omega arith in
    let e1 : 0 + n ≡ 1 * n = omega arith in
    let x2 : take n (drop (2 * n) h) ++ drop (3 * n) h ≡ drop (2 * n) h = rw e3 at (at_step (2 * n)) in
    let x1 : take n (drop (1 * n) h) ++ drop (2 * n) h ≡ drop (1 * n) h = rw e2 at (at_step (1 * n)) in
    let x0 : take n (drop 0 h) ++ drop (1 * n) h ≡ drop 0 h = rw e1 at (at_step 0) in
    rw (x3, x2, x1, x0)
  where
    at_step : (k : ℕ) → take n (drop k h) ++ drop (k + n) h ≡ drop k h
    at_step k = rw (← drop-drop n k h) (take-append-drop n (drop k h))

sum-zero : (h : List ℕ) → sum h ≡ 0 → h ≡ replicate (length h) 0
unfolding sum
sum-zero [] e = refl
sum-zero (a ∷ h) e =
    let z : a ≡ 0 = omega arith in
    let y : sum h ≡ 0 = omega arith in
    rw z (ap (λ (x : List ℕ). 0 ∷ x) (sum-zero h y))

pub read-hand : (h : List ℕ) → length h ≡ 52 → read_hand (hand_text h) ≡ h
unfolding read_hand hand_text suit_of index_of lower
read-hand h l = go (eqb (sum h) 0) refl
  where
    len : (u : ℕ) → u ≤ 3 → length (take 13 (drop (u * 13) h)) ≡ 13
    len u k = simp (length-take, length-drop) (omega arith)

    go : (t : Bool) → eqb (sum h) 0 ≡ t → read_hand (hand_text h) ≡ h
    go true e = simp e (unfold hand_from in sym (sum-zero h (eqb-true (sum h) 0 e) ∙ ap (λ (n : ℕ). replicate n 0) l))
    go false e =
        let a = take 13 (drop (0 * 13) h) in
        let b = take 13 (drop (1 * 13) h) in
        let c = take 13 (drop (2 * 13) h) in
        let d = take 13 (drop (3 * 13) h) in
        let la = len 0 (omega arith) in
        let lb = len 1 (omega arith) in
        let lc = len 2 (omega arith) in
        let lab : length (a ++ b) ≡ 26 = length-append a b ∙ (omega arith) in
        let labc : length (a ++ b ++ c) ≡ 39 = length-append (a ++ b) c ∙ (omega arith) in
        simp e
        (suit h 0 refl l (omega arith) None [] (replicate 39 0) (suit_text h 1 ++ (suit_text h 2 ++ suit_text h 3)) refl
        ∙ suit h 1 refl l (omega arith) (Some 0) a (replicate 26 0) (suit_text h 2 ++ suit_text h 3) la
        ∙ ap (λ (x : List ℕ). hand_from (Some 1) x (suit_text h 2 ++ suit_text h 3)) (sym (append_assoc a b (replicate 26 0)))
        ∙ suit h 2 refl l (omega arith) (Some 1) (a ++ b) (replicate 13 0) (suit_text h 3) lab
        ∙ ap (λ (x : List ℕ). hand_from (Some 2) x (suit_text h 3)) (sym (append_assoc (a ++ b) c (replicate 13 0)))
        ∙ ap (hand_from (Some 2) (a ++ b ++ c ++ replicate 13 0)) (sym (append-nil (suit_text h 3)))
        ∙ suit h 3 refl l (omega arith) (Some 2) (a ++ b ++ c) [] [] labc
        ∙ (unfold hand_from in simp (append-nil, append_assoc) (quarters 13 h l)))

-- The bytes of a hand are letters and figures from 2 to T

abbrev pub Letter : ℕ → Type 0
Letter b = (0x32 ≤ b) × (b ≤ 0x54)

all_replicate : (P : ℕ → Type 0) (n b : ℕ) → P b → All P (replicate n b)
all_replicate P zero b h = tt
all_replicate P (suc n) b h = (h, all_replicate P n b h)

rank_letter_lem : (r : ℕ) → r < 13 → Letter (rank_letter r)
unfolding all_below
rank_letter_lem r h =
    (leb-true 0x32 (rank_letter r) (below (λ n. leb 0x32 (rank_letter n)) 13 refl r h), leb-true (rank_letter r) 0x54 (below (λ n. leb (rank_letter n) 0x54) 13 refl r h))

letters_ranks : (h : List ℕ) (first r : ℕ) → r ≤ 13 → All Letter (ranks_from h first r)
unfolding ranks_from
letters_ranks h first zero k = tt
letters_ranks h first (suc r) k =
    all_append Letter (replicate (get_or h (first + r) 0) (rank_letter r)) (ranks_from h first r) (all_replicate Letter (get_or h (first + r) 0) (rank_letter r) (rank_letter_lem r (omega arith)))
    (letters_ranks h first r (omega arith))

letters_suit : (h : List ℕ) (u : ℕ) → Letter (get_or (ascii "SHDC") u 0) → All Letter (suit_text h u)
unfolding suit_text
letters_suit h u l = (l, letters_ranks h (u * 13) 13 (omega arith))

pub letters_hand : (h : List ℕ) → All Letter (hand_text h)
unfolding hand_text
letters_hand h =
    picked (All Letter) (eqb (sum h) 0) (λ _. tt)
    (λ _.
    all_append Letter (suit_text h 0) _ (letters_suit h 0 (omega arith, omega arith))
    (all_append Letter (suit_text h 1) _ (letters_suit h 1 (omega arith, omega arith))
    (all_append Letter (suit_text h 2) _ (letters_suit h 2 (omega arith, omega arith)) (letters_suit h 3 (omega arith, omega arith)))))

-- so none of them is a byte outside
pub letters_lack : (c : ℕ) → (Letter c → ⊥) → (s : List ℕ) → All Letter s → count c s ≡ 0
unfolding keep
letters_lack c n [] h = refl
letters_lack c n (b ∷ s) h = simp (ne_eqb b c (λ e. n (rw e at h.0)), letters_lack c n s h.1)
