-- Deals as the code makes them: the fields between commas, East's hand, a hand stored in its place, four of them. (01: Board, md)
-- Assumes nothing.
use Prim.Native.Nat.{ℕ, zero, suc, ◌+◌, ◌-◌, ◌*◌, ◌≤◌, ◌<◌}
use native.Mathlib.Numerals.{add-one}
use native.Mathlib.Omega.{arith}
use mathlib.Core.Path.{◌≡◌, refl, ap, sym, ◌∙◌}
use mathlib.Core.Bool.{Bool, true, false, ◌&&◌}
use mathlib.Core.List.{List, [], ◌++◌, append_assoc, append-nil}
use lib.ListN.{length, get_or, set, take, drop, replicate, length-append, length-replicate, replicate-append-replicate, get_or-append}
use lib.Seq.{take_at, drop_at, drop-drop, length-take-le, take_all, get_or-take, paste, paste-suc}
use lib.Dec.{eqb}
use Rattle.lin_spec.specs.Records.{part}
use Rattle.lin_spec.specs.White.{blank}
use Rattle.lin_spec.specs.Tokens.{Pieces}
use Rattle.lin_spec.specs.Tokens.Pieces.{end, piece}
use Rattle.lin_spec.specs.Cursor.{find_from}
use Rattle.lin_spec.specs.Base.{pick}
use Rattle.lin_spec.specs.Cards.{no_cards, read_hand, field, unheld_cards, thirteens, deal_of, east_of}
use Rattle.lin_spec.proofs.Base.{split}
use Rattle.lin_spec.proofs.Records.{part_length}
use Rattle.lin_spec.proofs.Cursor.{find-after}
use Rattle.lin_spec.proofs.Cards.{hand-length}
use Rattle.cards.specs.Deals.{others, field_at, with_hand, hand_of}
use Rattle.cards.proofs.HandLaws.{part-long, count_at, field_is, Three, all, rest_at}

-- Fields

-- the text up to the next comma
module _ (s : List ℕ) (at p : ℕ) (e : p ≡ find_from 0x2C s at) where
  pub find-from : at ≤ length s → at ≤ p
  find-from h = split p (length s) (λ l. rw e (find-after 0x2C s at (rw e at l))) (λ l. omega arith)

  pub field_found : (r : List ℕ) → r ≡ part s at (p - at) → r ≡ field_at s at
  field_found r h = h ∙ ap (λ (n : ℕ). part s at (n - at)) e ∙ field_is s at

field-others : (k : ℕ) (f : Pieces) → field k (others f) ≡ field (suc k) f
unfolding field
field-others zero (end x) = refl
field-others (suc k) (end x) = refl
field-others k (piece x r) = refl

-- a field of the others is the next one of all
next_field : (k : ℕ) (f g : Pieces) → g ≡ others f → field k g ≡ field (suc k) f
next_field k f g e = ap (field k) e ∙ field-others k f

-- the first fields of texts each of which is what follows the first comma of the one before
pub record Fields (f g h i : Pieces) : Type 0 where
  pub second : field 0 g ≡ field 1 f
  pub third : field 0 h ≡ field 2 f
  pub fourth : field 0 i ≡ field 3 f

-- they are the fields of the first text
pub fields : (f g h i : Pieces) → g ≡ others f → h ≡ others g → i ≡ others h → Fields f g h i
fields f g h i eg eh ei =
    record {
      second = next_field 0 f g eg;
      third = next_field 0 g h eh ∙ next_field 1 f g eg;
      fourth = next_field 0 h i ei ∙ next_field 1 g h eh ∙ next_field 2 f g eg;
    }

-- East

-- the code's test of East's field and the three lengths
module _ (e s w n : List ℕ) (b t : Bool) (eb : b ≡ blank e) (et : t ≡ thirteens s w n) (r : List ℕ) where
  -- the test holds
  pub east-rest : (b && t) ≡ true → r ≡ unheld_cards s w n → r ≡ east_of e s w n
  unfolding east_of
  east-rest h k = let m : (blank e && thirteens s w n) ≡ true = rw (← eb, ← et) h in k ∙ simp m

  -- it does not
  pub east-read : (b && t) ≡ false → r ≡ read_hand e → r ≡ east_of e s w n
  unfolding east_of
  east-read h k = let m : (blank e && thirteens s w n) ≡ false = rw (← eb, ← et) h in k ∙ simp m

-- A hand in its place

-- a turn of the loop that stores a hand
pub put_next : (d h x : List ℕ) (at i : ℕ) → x ≡ paste d at h i → at + 52 ≤ length d → length h ≡ 52 → i < 52
    → set x (at + i) (get_or h i 0) ≡ paste d at h (i + 1)
put_next d h x at i e k l m = ap (λ (y : List ℕ). set y (at + i) (get_or h i 0)) e ∙ rw add-one (paste-suc d at h i 0 (omega arith) (omega arith))

-- the end of that loop
pub put_end : (d h x : List ℕ) (k i : ℕ) → x ≡ paste d (k * 52) h i → length h ≡ 52 → i ≡ 52 → x ≡ with_hand d k h
unfolding with_hand
put_end d h x k i e l m = e ∙ rw (m, take_all 52 h (omega arith)) (append_assoc (take (k * 52) d) h (drop (k * 52 + 52) d))

drop-zeros : (k m : ℕ) → drop k (replicate (k + m) 0) ≡ replicate {A = ℕ} m 0
drop-zeros k m = ap (drop k) (sym (replicate-append-replicate k m 0)) ∙ drop_at (replicate k 0) (replicate m 0) k (length-replicate k 0)

-- a hand stored after those that are there
put_step : (p h d x : List ℕ) (k m : ℕ) → length p ≡ k * 52 → d ≡ p ++ replicate (52 + m) 0 → x ≡ with_hand d k h
    → x ≡ (p ++ h) ++ replicate m 0
unfolding with_hand
put_step p h d x k m lp ed ex =
    let z : List ℕ = replicate (52 + m) 0 in
    let front : take (k * 52) (p ++ z) ≡ p = take_at p z (k * 52) lp in
    let back : drop (k * 52) (p ++ z) ≡ z = drop_at p z (k * 52) lp in
    ex ∙ rw (ed, front, ← drop-drop 52 (k * 52) (p ++ z), back, drop-zeros 52 m) (sym (append_assoc p h (replicate m 0)))

-- The deal so far: k hands, and no cards after them

pub record Dealing (d p : List ℕ) (k m : ℕ) : Type 0 where
  pub long : length p ≡ k * 52
  pub is : d ≡ p ++ replicate m 0

pub dealing_none : (d : List ℕ) → d ≡ replicate 208 0 → Dealing d [] 0 208
dealing_none d e = record { long = refl; is = e }

module _ (d p : List ℕ) (k m : ℕ) (v : Dealing d p k (52 + m)) where
  -- there is place for a hand
  pub dealing_room : part d (k * 52) 52 ≡ no_cards
  unfolding part
  dealing_room =
      let e : drop (k * 52) d ≡ replicate (52 + m) 0 = ap (drop (k * 52)) v.is ∙ drop_at p (replicate (52 + m) 0) (k * 52) v.long in
      ap (take 52) (e ∙ sym (replicate-append-replicate 52 m 0)) ∙ take_at (replicate 52 0) (replicate m 0) 52 refl

  -- it is stored there
  pub dealing_more : (x h : List ℕ) → x ≡ with_hand d k h → length h ≡ 52 → Dealing x (p ++ h) (k + 1) m
  dealing_more x h e l = record { long = (let a = v.long in let b = length-append p h in omega arith); is = put_step p h d x k m v.long v.is e }

-- the first three hands of a deal
pub three_hands : (d s w n : List ℕ) → d ≡ ((s ++ w) ++ n) ++ replicate 52 0 → length s ≡ 52 → length w ≡ 52 → length n ≡ 52
    → (hand_of d 0 ≡ s) × (hand_of d 1 ≡ w) × (hand_of d 2 ≡ n)
unfolding part
three_hands d s w n e ls lw ln =
    let z : List ℕ = replicate 52 0 in
    let a : d ≡ s ++ (w ++ (n ++ z)) = e ∙ simp append_assoc in
    let b : d ≡ (s ++ w) ++ (n ++ z) = e ∙ simp append_assoc in
    let l : length (s ++ w) ≡ 104 = simp (length-append, ls, lw) in (
      ap (take 52) a ∙ take_at s (w ++ (n ++ z)) 52 ls,
      ap (take 52) (ap (drop 52) a ∙ drop_at s (w ++ (n ++ z)) 52 ls) ∙ take_at w (n ++ z) 52 lw,
      ap (take 52) (ap (drop 104) b ∙ drop_at (s ++ w) (n ++ z) 104 l) ∙ take_at n z 52 ln,
    )

-- a fourth after them
pub fourth_put : (d s w n x e : List ℕ) → Dealing d ((s ++ w) ++ n) 3 52 → x ≡ with_hand d 3 e → x ≡ s ++ (w ++ (n ++ e))
fourth_put d s w n x e v f = put_step ((s ++ w) ++ n) e d x 3 0 v.long v.is f ∙ simp (append-nil, append_assoc)

-- East by the others

module _ (d : List ℕ) (room : hand_of d 3 ≡ no_cards) where
  long-all : 208 ≤ length d
  long-all = part-long d 156 room

  part-has : (a : ℕ) → a + 52 ≤ 208 → length (part d a 52) ≡ 52
  part-has a h = let l = long-all in part_length d a 52 (omega arith)

  three : Three (hand_of d 0) (hand_of d 1) (hand_of d 2)
  three = record { first = part-has 0 (omega arith); second = part-has 52 (omega arith); third = part-has 104 (omega arith) }

  abbrev rest : List ℕ
  rest = unheld_cards (hand_of d 0) (hand_of d 1) (hand_of d 2)

  -- the counts of the other seats stay
  kept : (x : List ℕ) (i a j : ℕ) → x ≡ paste d 156 rest i → j < 52 → a + 52 ≤ 156 → get_or x (a + j) 0 ≡ get_or (part d a 52) j 0
  kept x i a j e h k =
      let l = long-all in
      let f : length (take 156 d) ≡ 156 = length-take-le 156 d (omega arith) in
      let g = length-append (take 156 d) (take i rest) in
      ap (λ (y : List ℕ). get_or y (a + j) 0) e
      ∙ get_or-append (take 156 d ++ take i rest) (drop (156 + i) d) 0 (a + j) (omega arith)
      ∙ get_or-append (take 156 d) (take i rest) 0 (a + j) (omega arith)
      ∙ get_or-take 156 d (a + j) 0 (omega arith)
      ∙ count_at d a 52 j h

  pub rest-turn : (x : List ℕ) (i w : ℕ) → x ≡ paste d 156 rest i → i < 52
      → w ≡ pick (eqb (get_or x i 0) 0 && (eqb (get_or x (52 + i) 0) 0 && eqb (get_or x (104 + i) 0) 0)) 1 0
      → set x (156 + i) w ≡ paste d 156 rest (i + 1)
  rest-turn x i w e h k =
      let l = long-all in
      let z : 0 + i ≡ i = omega arith in
      let a : get_or x i 0 ≡ get_or (hand_of d 0) i 0 = ap (λ (j : ℕ). get_or x j 0) (sym z) ∙ kept x i 0 i e h (omega arith) in
      let q : w ≡ get_or rest i 0 = rest_at _ _ _ three i w h (k ∙ rw (a, kept x i 52 i e h (omega arith), kept x i 104 i e h (omega arith)) refl) in
      ap (set x (156 + i)) q ∙ put_next d rest x 156 i e (omega arith) (all _ _ _ three) h

  pub rest_end : (x : List ℕ) (i : ℕ) → x ≡ paste d 156 rest i → i ≡ 52 → x ≡ with_hand d 3 rest
  rest_end x i e m = put_end d rest x 3 i e (all _ _ _ three) m

-- the deal of the fields
pub deal-is : (f : Pieces) (x y z v s w n e d : List ℕ) → x ≡ field 0 f → y ≡ field 1 f → z ≡ field 2 f → v ≡ field 3 f
    → s ≡ read_hand x → w ≡ read_hand y → n ≡ read_hand z → e ≡ east_of v s w n → d ≡ s ++ (w ++ (n ++ e)) → d ≡ deal_of f
unfolding deal_of
deal-is f x y z v s w n e d ex ey ez ev es ew en ee ed = ed ∙ rw (ee, es, ew, en, ex, ey, ez, ev)

-- the deal that was made of them, hand by hand
pub deal-done : (f : Pieces) (x y z v d r : List ℕ) → x ≡ field 0 f → y ≡ field 1 f → z ≡ field 2 f → v ≡ field 3 f
    → Dealing d ((read_hand x ++ read_hand y) ++ read_hand z) 3 52 → r ≡ with_hand d 3 (east_of v (hand_of d 0) (hand_of d 1) (hand_of d 2)) → r ≡ deal_of f
deal-done f x y z v d r ex ey ez ev k e =
    let h = three_hands d (read_hand x) (read_hand y) (read_hand z) k.is (hand-length x) (hand-length y) (hand-length z) in
    deal-is f x y z v (read_hand x) (read_hand y) (read_hand z) _ r ex ey ez ev refl refl refl refl
    (fourth_put d (read_hand x) (read_hand y) (read_hand z) r (east_of v (read_hand x) (read_hand y) (read_hand z)) k (e ∙ rw (h.0, h.1, h.2) refl))
