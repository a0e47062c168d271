-- Settling a settled board changes nothing. (01: Writer and settled form)
-- Assumes nothing.
use Rattle.std.specs.Prelude.{Option, None, Some}
use Prim.Native.Nat.{ℕ, ◌*◌, ◌≤◌}
use native.Mathlib.Omega.{arith}
use mathlib.Core.Path.{◌≡◌, refl, ap, sym, subst, ◌∙◌}
use mathlib.Core.Bool.{Bool, true, false, ◌&&◌, ◌||◌, not, or-false}
use mathlib.Core.List.{List, [], ◌∷◌, ◌++◌, map, append_assoc}
use lib.ListN.{length, take, drop, length-append, length-take, length-drop}
use lib.Seq.{take_at, drop_at, take-length}
use lib.Dec.{eqb}
use borrow.Author.Tests.{eq-eqb}
use Rattle.lin_spec.specs.Records.{part}
use Rattle.lin_spec.specs.Letters.{hand_at}
use Rattle.lin_spec.specs.Cards.{sum, unheld_cards, thirteens}
use Rattle.lin_spec.specs.Board.{CallOf, BoardOf, without_end, map_option, map_call}
use Rattle.lin_spec.specs.Writer.{clean, clean_name, held_in, implied_east, present, settled_deal, settled_call, cleaned, settled}
use Rattle.lin_spec.specs.declared.Seat.TheVariants.{South, West, North, East}
use Rattle.lin_spec.proofs.Base.{and_left}
use Rattle.lin_spec.proofs.Cards.{unheld_length}
use Rattle.lin_spec.proofs.Reading.{board_eq}
use Rattle.lin_spec.proofs.Clean.{Fit, Free, free_clean, clean-same, clean-clean, name_name, all-without_end, without-same-end, without-ends}

-- The deal

held_self : (h : List ℕ) → held_in h h ≡ true
unfolding held_in
held_self [] = refl
held_self (n ∷ h) = go (eqb n 0) (held_self h)
  where
    go : (t : Bool) → held_in h h ≡ true → ((t || not t) && held_in h h) ≡ true
    go true ih = ih
    go false ih = ih

-- the hands of four hands
module _ (s w n e : List ℕ) (ls : length s ≡ 52) (lw : length w ≡ 52) (ln : length n ≡ 52) (le : length e ≡ 52) where
  abbrev four : List ℕ
  four = s ++ (w ++ (n ++ e))

  south-four : hand_at four South ≡ s
  unfolding part
  south-four = take_at s (w ++ (n ++ e)) 52 ls

  west-four : hand_at four West ≡ w
  unfolding part
  west-four = ap (take 52) (drop_at s (w ++ (n ++ e)) 52 ls) ∙ take_at w (n ++ e) 52 lw

  north-four : hand_at four North ≡ n
  unfolding part
  north-four =
      let l : length (s ++ w) ≡ 104 = length-append s w ∙ omega arith in
      ap (λ (x : List ℕ). take 52 (drop 104 x)) (sym (append_assoc s w (n ++ e))) ∙ ap (take 52) (drop_at (s ++ w) (n ++ e) 104 l) ∙ take_at n e 52 ln

  east-four : hand_at four East ≡ e
  unfolding part
  east-four =
      let l : length (s ++ (w ++ n)) ≡ 156 = length-append s (w ++ n) ∙ (let k = length-append w n in omega arith) in
      let q : four ≡ (s ++ (w ++ n)) ++ e = simp append_assoc in
      ap (λ (x : List ℕ). take 52 (drop 156 x)) q ∙ ap (take 52) (drop_at (s ++ (w ++ n)) e 156 l) ∙ (let z : take (length e) e ≡ e = take-length e in subst (λ (k : ℕ). take k e ≡ e) le z)

-- the remainder beside three hands of 13 is implied, and stays
module _ (s w n : List ℕ) (ls : length s ≡ 52) (lw : length w ≡ 52) (ln : length n ≡ 52) (th : thirteens s w n ≡ true) where
  abbrev rest : List ℕ
  rest = unheld_cards s w n

  lr : length rest ≡ 52
  lr = unheld_length 52 s w n ls lw ln

  implied-four : implied_east (four s w n rest ls lw ln lr) ≡ true
  unfolding implied_east
  implied-four =
      simp (south-four s w n rest ls lw ln lr, west-four s w n rest ls lw ln lr, north-four s w n rest ls lw ln lr, east-four s w n rest ls lw ln lr, th, eq-eqb (sum rest) (sum rest) refl, held_self rest)
      (or-true (eqb (sum rest) 0))
    where
      or-true : (t : Bool) → (t || true) ≡ true
      or-true true = refl
      or-true false = refl

  settled-four : settled_deal (four s w n rest ls lw ln lr) ≡ four s w n rest ls lw ln lr
  unfolding settled_deal
  settled-four = simp (implied-four, south-four s w n rest ls lw ln lr, west-four s w n rest ls lw ln lr, north-four s w n rest ls lw ln lr)

hand-length : (d : List ℕ) → length d ≡ 208 → (k : ℕ) → k ≤ 3 → length (part d (k * 52) 52) ≡ 52
unfolding part
hand-length d l k h = simp (length-take, length-drop) (omega arith)

pub settle-deal : (d : List ℕ) → length d ≡ 208 → settled_deal (settled_deal d) ≡ settled_deal d
settle-deal d l = go (implied_east d) refl
  where
    s : List ℕ
    s = hand_at d South

    w : List ℕ
    w = hand_at d West

    n : List ℕ
    n = hand_at d North

    ls : length s ≡ 52
    ls = hand-length d l 0 (omega arith)

    lw : length w ≡ 52
    lw = hand-length d l 1 (omega arith)

    ln : length n ≡ 52
    ln = hand-length d l 2 (omega arith)

    go : (t : Bool) → implied_east d ≡ t → settled_deal (settled_deal d) ≡ settled_deal d
    go false e = let z : settled_deal d ≡ d = unfold settled_deal in simp e in ap settled_deal z
    go true e =
        let th : thirteens s w n ≡ true = unfold implied_east in and_left (thirteens s w n) _ e in
        let z : settled_deal d ≡ s ++ (w ++ (n ++ unheld_cards s w n)) = unfold settled_deal in simp e in
        ap settled_deal z ∙ settled-four s w n ls lw ln th ∙ sym z

-- The texts

module _ (p q : ℕ) (f : Fit p q) where
  names_twice : (ns : List (List ℕ)) → map (clean_name p q) (map (clean_name p q) ns) ≡ map (clean_name p q) ns
  names_twice [] = refl
  names_twice (n ∷ ns) = simp (name_name p q f n, names_twice ns)

  option_twice : (o : Option (List ℕ)) → map_option (clean p q) (map_option (clean p q) o) ≡ map_option (clean p q) o
  option_twice None = refl
  option_twice (Some s) = ap (λ (t : List ℕ). Some t) (clean-clean p q f s)

  present_twice : (o : Option (List ℕ)) → present (map_option (clean p q) (present (map_option (clean p q) o))) ≡ present (map_option (clean p q) o)
  present_twice None = refl
  present_twice (Some s) = go (clean p q s) (clean-clean p q f s)
    where
      go : (t : List ℕ) → clean p q t ≡ t → present (map_option (clean p q) (present (Some t))) ≡ present (Some t)
      go [] e = refl
      go (b ∷ t) e = ap (λ (x : List ℕ). present (Some x)) e

  abbrev one : CallOf (List ℕ) → CallOf (List ℕ)
  one c = settled_call (map_call (clean p q) c)

  call_twice : (c : CallOf (List ℕ)) → one (one c) ≡ one c
  unfolding settled_call
  call_twice c =
      let b = without_end 0x21 (clean p q c.bid) in
      let k : clean p q b ≡ b = clean-same p q b (all-without_end 0x21 Free (clean p q c.bid) (free_clean p q f c.bid)) in
      let m = without-ends 0x21 (clean p q c.bid) in
      simp (k, m, without-same-end 0x21 b m, or-false, option_twice c.annotation)

  calls_twice : (cs : List (CallOf (List ℕ))) → map settled_call (map (map_call (clean p q)) (map settled_call (map (map_call (clean p q)) cs))) ≡ map settled_call (map (map_call (clean p q)) cs)
  calls_twice [] = refl
  calls_twice (c ∷ cs) = simp (call_twice c, calls_twice cs)

  pub settle-settle : (b : BoardOf (List ℕ)) → length b.dealt.deal ≡ 208 → settled p q (settled p q b) ≡ settled p q b
  unfolding settled cleaned
  settle-settle b l =
      board_eq (names_twice b.names)
      (ap (λ (d : List ℕ). record { dealer = b.dealt.dealer; deal = d }) (settle-deal b.dealt.deal l))
      refl
      (present_twice b.title)
      (present_twice b.room)
      (option_twice b.header)
      (calls_twice b.calls)
      refl
      refl
