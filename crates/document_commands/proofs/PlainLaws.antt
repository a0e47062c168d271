-- Laws of tokens whose command has two bytes, perhaps after an LF, and whose value is short: what their bytes say. (01: Tokens)
-- Assumes nothing.
use Rattle.std.specs.Prelude.{Some}
use Prim.Native.Nat.{ℕ, suc, ◌+◌, ◌-◌, ◌≤◌, ◌<◌}
use native.Mathlib.Numerals.{add-one}
use native.Mathlib.Omega.{arith}
use mathlib.Core.Path.{◌≡◌, refl, ap, sym, subst, ◌∙◌}
use mathlib.Core.Bool.{Bool, true, false, ◌&&◌, ◌||◌, not, false≢true}
use mathlib.Core.List.{List, [], ◌∷◌}
use lib.ListN.{length, get_or}
use lib.Seq.{drop-cons}
use lib.Dec.{eqb, leb}
use borrow.Author.Tests.{eqb-true, eqb-false, not-true}
use Rattle.lin_spec.specs.Base.{eq_all}
use Rattle.lin_spec.specs.Records.{span, part, bytes_at}
use Rattle.lin_spec.specs.White.{trim, lower}
use Rattle.lin_spec.specs.Tokens.{pipe}
use Rattle.lin_spec.specs.Cursor.{find_from}
use Rattle.lin_spec.specs.Cards.{read_card}
use Rattle.lin_spec.specs.Reading.{stream}
use Rattle.lin_spec.proofs.Base.{and_left, and_right, picked}
use Rattle.lin_spec.proofs.Cursor.{find-here, find-next, find-after}
use Rattle.cards.specs.Letters.{CardIs}
use Rattle.document_commands.specs.Commands.{first_small, code_of, command_of}
use Rattle.document_commands.specs.Plain.{Skips, PairAt, ShortAt, CardAt, PageAt, OtherLetter, UnmarkedAt}
use Rattle.document_commands.specs.Steps.{TokenAt, PassedToken}
use Rattle.document_commands.proofs.CommandLaws.{pair_code, same_lf, unmarked-pair}
use Rattle.document_commands.proofs.StepLaws.{pipes_none, pipes_token}

-- An LF before a command

pub skips-here : (s : List ℕ) (at : ℕ) → Skips s at at
skips-here s at = record { find = refl; same = λ p _ _. refl }

pub skips_lf : (s : List ℕ) (at : ℕ) → at < length s → get_or s at 0 ≡ 0xA → Skips s at (at + 1)
skips_lf s at h e =
    record {
      find = find-next pipe s at h (λ k. let z : 0xA ≡ 0x7C = sym e ∙ k in omega (arith, z));
      same = λ p l m. (same_lf s at p (omega arith) m e).same;
    }

-- The first pipe, two bytes on

find-two : (s : List ℕ) (a b c : ℕ) → b ≡ a + 1 → c ≡ a + 2 → c < length s → (get_or s a 0 ≡ pipe → ⊥) → (get_or s b 0 ≡ pipe → ⊥) → get_or s c 0 ≡ pipe → find_from pipe s a ≡ c
find-two s a b c eb ec h x y z =
    let e : b + 1 ≡ c = omega arith in
    sym (find-next pipe s a (omega arith) x) ∙ ap (find_from pipe s) (sym eb) ∙ sym (find-next pipe s b (omega arith) y) ∙ ap (find_from pipe s) e ∙ find-here pipe s c h z

pub pair-at : (s : List ℕ) (a : ℕ) → a + 3 ≤ length s → (not (eqb (get_or s a 0) pipe) && (not (eqb (get_or s (a + 1) 0) pipe) && eqb (get_or s (a + 2) 0) pipe)) ≡ true → PairAt s a
pair-at s a h t =
    let x = not (eqb (get_or s a 0) pipe) in
    let y = not (eqb (get_or s (a + 1) 0) pipe) in
    let z = eqb (get_or s (a + 2) 0) pipe in
    let r = and_right x (y && z) t in
    record {
      within = h;
      first = find-two s a (a + 1) (a + 2) refl refl (omega arith) (eqb-false _ _ (not-true _ (and_left x (y && z) t))) (eqb-false _ _ (not-true _ (and_left y z r))) (eqb-true _ _ (and_right y z r));
    }

pub pair_end : (s : List ℕ) (at a : ℕ) → Skips s at a → PairAt s a → a + 2 ≡ find_from pipe s at
pair_end s at a k p = sym p.first ∙ k.find

-- Two bytes of a text

pub two_at : (s : List ℕ) (a : ℕ) → a + 2 ≤ length s → part s a 2 ≡ get_or s a 0 ∷ get_or s (a + 1) 0 ∷ []
unfolding part
two_at s a h =
    let d = drop-cons s a 0 (omega arith) in
    let f = drop-cons s (suc a) 0 (omega arith) in
    rw (add-one a, d, f)

-- The token, by its pipes

-- the length of a command of two bytes
two : (a : ℕ) → a + 2 - a ≡ 2
two a = omega arith

module _ (s : List ℕ) (at a q : ℕ) (k : Skips s at a) (t : ShortAt s a q) where
  short_least : a + 3 ≤ q
  short_least = rw (← t.second) (find-after pipe s (a + 3) (rw t.second t.within))

  pub short-token : (n : ℕ) → n ≡ command_of (part s a 2) → TokenAt s at n (span (a + 3) (q - (a + 3))) (q + 1)
  short-token n e =
      let w = t.within in
      let l = short_least in
      let g : a + 2 + 1 ≡ a + 3 = omega arith in
      subst (λ (x : ℕ). TokenAt s at n (span x (q - x)) (q + 1)) g
      (pipes_token s at (a + 2) q (sym t.first ∙ k.find) (sym t.second ∙ ap (find_from pipe s) (sym g)) w n
      (e ∙ ap (λ (m : ℕ). command_of (part s a m)) (sym (two a)) ∙ k.same (a + 2) (omega arith) (omega arith)))

-- A pc of six bytes

module _ (s : List ℕ) (a : ℕ) (h : a + 6 ≤ length s) where
  pc_bytes : get_or s a 0 ≡ 112 → get_or s (a + 1) 0 ≡ 99 → 0 ≡ command_of (part s a 2)
  unfolding first_small eq_all lower
  pc_bytes x y =
      let z : 0 ≡ code_of 112 99 = refl in
      let e : part s a 2 ≡ 112 ∷ 99 ∷ [] = two_at s a (omega arith) ∙ rw (x, y) refl in
      z ∙ pair_code 112 99 112 99 refl refl ∙ sym (ap command_of e)

  pub card-at : (eqb (get_or s a 0) 112 && (eqb (get_or s (a + 1) 0) 99 && (eqb (get_or s (a + 2) 0) pipe && eqb (get_or s (a + 5) 0) pipe))) ≡ true
      → (r : ℕ) → (r < 52 → CardIs (get_or s (a + 3) 0) (get_or s (a + 4) 0) r) → r < 52 → CardAt s a r
  card-at t r f l =
      let x = eqb (get_or s a 0) 112 in
      let y = eqb (get_or s (a + 1) 0) 99 in
      let z = eqb (get_or s (a + 2) 0) pipe in
      let w = eqb (get_or s (a + 5) 0) pipe in
      let u = and_right x (y && (z && w)) t in
      let v = and_right y (z && w) u in
      let ex : get_or s a 0 ≡ 112 = eqb-true _ _ (and_left x (y && (z && w)) t) in
      let ey : get_or s (a + 1) 0 ≡ 99 = eqb-true _ _ (and_left y (z && w) u) in
      let c = f l in
      let e : a + 3 + 1 ≡ a + 4 = omega arith in
      record {
        short =
            record {
              first = find-two s a (a + 1) (a + 2) refl refl (omega arith) (λ k. let q : 112 ≡ 124 = sym ex ∙ k in omega (arith, q)) (λ k. let q : 99 ≡ 124 = sym ey ∙ k in omega (arith, q)) (eqb-true _ _ (and_left z w v));
              second = find-two s (a + 3) (a + 4) (a + 5) (omega arith) (omega arith) (omega arith) c.first c.second (eqb-true _ _ (and_right z w v));
              within = omega arith;
            };
        command = pc_bytes ex ey;
        card = ap (λ (b : List ℕ). read_card (trim b)) (two_at s (a + 3) (omega arith) ∙ ap (λ (i : ℕ). get_or s (a + 3) 0 ∷ get_or s i 0 ∷ []) e) ∙ c.card;
      }

-- the token, and the card that its value is
module _ (s : List ℕ) (at a r : ℕ) (k : Skips s at a) (t : CardAt s a r) where
  pub card-token : TokenAt s at 0 (span (a + 3) 2) (a + 6)
  card-token =
      let e : a + 5 - (a + 3) ≡ 2 = omega arith in
      let g : a + 5 + 1 ≡ a + 6 = omega arith in
      subst (λ (n : ℕ). TokenAt s at 0 (span (a + 3) 2) n) g (subst (λ (m : ℕ). TokenAt s at 0 (span (a + 3) m) (a + 5 + 1)) e (short-token s at a (a + 5) k t.short 0 t.command))

  pub card-value : Some r ≡ read_card (trim (bytes_at s (span (a + 3) 2)))
  card-value = sym t.card

-- A token whose value is sought

module _ (s : List ℕ) (at a q : ℕ) (k : Skips s at a) (t : PairAt s a) (e : q ≡ find_from pipe s (a + 3)) where
  pub pair-none : length s ≤ q → stream s at ≡ []
  pair-none h = let g : a + 3 ≡ a + 2 + 1 = omega arith in pipes_none s at (a + 2) q (pair_end s at a k t) (e ∙ ap (find_from pipe s) g) h

  pub pair_least : q < length s → a + 3 ≤ q
  pair_least h = rw e (find-after pipe s (a + 3) (rw e at h))

  pub pair-token : q < length s → (n : ℕ) → n ≡ command_of (get_or s a 0 ∷ get_or s (a + 1) 0 ∷ []) → TokenAt s at n (span (a + 3) (q - (a + 3))) (q + 1)
  pair-token h n f =
      let w = t.within in
      short-token s at a q k (record { first = t.first; second = sym e; within = h }) n (f ∙ sym (ap command_of (two_at s a (omega arith))))

-- A `pg||`

module _ (s : List ℕ) (a : ℕ) (h : a + 4 ≤ length s) where
  pg-bytes : get_or s a 0 ≡ 112 → get_or s (a + 1) 0 ≡ 103 → 10 ≡ command_of (part s a 2)
  unfolding first_small eq_all lower
  pg-bytes x y =
      let z : 10 ≡ code_of 112 103 = refl in
      let e : part s a 2 ≡ 112 ∷ 103 ∷ [] = two_at s a (omega arith) ∙ rw (x, y) refl in
      z ∙ pair_code 112 103 112 103 refl refl ∙ sym (ap command_of e)

  pub page_at : (eqb (get_or s a 0) 112 && (eqb (get_or s (a + 1) 0) 103 && (eqb (get_or s (a + 2) 0) pipe && eqb (get_or s (a + 3) 0) pipe))) ≡ true → PageAt s a
  page_at t =
      let x = eqb (get_or s a 0) 112 in
      let y = eqb (get_or s (a + 1) 0) 103 in
      let z = eqb (get_or s (a + 2) 0) pipe in
      let w = eqb (get_or s (a + 3) 0) pipe in
      let u = and_right x (y && (z && w)) t in
      let v = and_right y (z && w) u in
      let ex : get_or s a 0 ≡ 112 = eqb-true _ _ (and_left x (y && (z && w)) t) in
      let ey : get_or s (a + 1) 0 ≡ 103 = eqb-true _ _ (and_left y (z && w) u) in
      record {
        short =
            record {
              first = find-two s a (a + 1) (a + 2) refl refl (omega arith) (λ k. let q : 112 ≡ 124 = sym ex ∙ k in omega (arith, q)) (λ k. let q : 103 ≡ 124 = sym ey ∙ k in omega (arith, q)) (eqb-true _ _ (and_left z w v));
              second = find-here pipe s (a + 3) (omega arith) (eqb-true _ _ (and_right z w v));
              within = omega arith;
            };
        command = pg-bytes ex ey;
      }

pub page_token : (s : List ℕ) (at a : ℕ) → Skips s at a → PageAt s a → TokenAt s at 10 (span (a + 3) (a + 3 - (a + 3))) (a + 4)
page_token s at a k t =
    let g : a + 3 + 1 ≡ a + 4 = omega arith in
    subst (λ (n : ℕ). TokenAt s at 10 (span (a + 3) (a + 3 - (a + 3))) n) g (short-token s at a (a + 3) k t.short 10 t.command)

-- A token that is none of qx, md, mn and pn

-- neither a letter nor its capital
pub not_lower : (b k : ℕ) → (b ≡ k → ⊥) → (b + 32 ≡ k → ⊥) → lower b ≡ k → ⊥
unfolding lower
not_lower b k h g = picked (λ (x : ℕ). x ≡ k → ⊥) (leb 0x41 b && leb b 0x5A) (λ _. g) (λ _. h)

pub unmarked-at : (s : List ℕ) (a : ℕ) → a + 3 ≤ length s → (eqb (get_or s a 0) pipe || not (eqb (get_or s (a + 2) 0) pipe)) ≡ false → OtherLetter (get_or s (a + 1) 0) → UnmarkedAt s a
unmarked-at s a h t o = go (eqb (get_or s a 0) pipe) refl (eqb (get_or s (a + 2) 0) pipe) refl t
  where
    go : (x : Bool) → eqb (get_or s a 0) pipe ≡ x → (y : Bool) → eqb (get_or s (a + 2) 0) pipe ≡ y → (x || not y) ≡ false → UnmarkedAt s a
    go true ex y ey k = absurd (false≢true (sym k))
    go false ex false ey k = absurd (false≢true (sym k))
    go false ex true ey k =
        record {
          pair = record { within = h; first = find-two s a (a + 1) (a + 2) refl refl (omega arith) (eqb-false _ _ ex) o.bar (eqb-true _ _ ey) };
          unmarked = unmarked-pair s a (omega arith) o.d o.n o.x;
        }

pub passed-token : (s : List ℕ) (at a q : ℕ) → Skips s at a → UnmarkedAt s a → q ≡ find_from pipe s (a + 3) → q < length s → PassedToken s at (q + 1)
passed-token s at a q k t e h =
    record {
      number = command_of (part s a 2);
      value = span (a + 3) (q - (a + 3));
      token = short-token s at a q k (record { first = t.pair.first; second = sym e; within = h }) _ refl;
      unmarked = t.unmarked;
    }
