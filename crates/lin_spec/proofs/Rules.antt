-- Laws of a board's rules: folds over tokens, md, and the digit rule. (01: Board)
-- Assumes nothing.
use Rattle.std.specs.Prelude.{Option, None, Some}
use Prim.Native.Nat.{ℕ, ◌+◌, ◌-◌, ◌*◌, ◌≤◌}
use mathlib.Core.Path.{◌≡◌, refl, ap, subst, ◌∙◌}
use mathlib.Core.Bool.{Bool, true, false, ◌&&◌, not, false≢true}
use mathlib.Core.List.{List, [], ◌∷◌, ◌++◌}
use lib.Dec.{eqb, leb}
use native.Mathlib.Omega.{arith}
use borrow.Author.Tests.{leb-true, le-leb, eqb-true}
use Rattle.lin_spec.specs.Base.{pick, null, ascii, all}
use Rattle.lin_spec.specs.White.{trim, is_command}
use Rattle.lin_spec.specs.Tokens.{cut, TokenOf}
use Rattle.lin_spec.specs.Tokens.TokenOf.{token}
use Rattle.lin_spec.specs.Cards.{deal_of}
use Rattle.lin_spec.specs.Board.{Dealt, Text, dealer_of, read_md, all_digits, value_from, after_plus, number_in, over, on_dealt, board_from}
use Rattle.lin_spec.specs.declared.Seat.{Seat}
use Rattle.lin_spec.proofs.Base.{and_left, and_right, picked}

-- Folds over tokens

-- a fold is the changed fold, if each step is
pub over_change : {A C D : Type 0} (h : C → D) (f : List ℕ → A → C → C) (f' : List ℕ → A → D → D)
    → ((c : List ℕ) (v : A) (x : C) → h (f c v x) ≡ f' c v (h x)) → (ts : List (TokenOf A)) (b : C) → h (over f b ts) ≡ over f' (h b) ts
unfolding over
over_change h f f' e [] b = refl
over_change h f f' e (token c v ∷ ts) b = over_change h f f' e ts (f c v b) ∙ ap (λ x. over f' x ts) (e c v b)

pub over-append : {A B : Type 0} (f : List ℕ → A → B → B) (b : B) (ts us : List (TokenOf A)) → over f b (ts ++ us) ≡ over f (over f b ts) us
unfolding over
over-append f b [] us = refl
over-append f b (token c v ∷ ts) us = over-append f (f c v b) ts us

-- md: "otherwise the token is skipped"; one that is accepted gives dealer and deal whole, whatever an earlier one gave

pub md_skipped : (b : ℕ) (s : List ℕ) (d : Dealt) → dealer_of b ≡ None → read_md (b ∷ s) d ≡ d
unfolding read_md
md_skipped b s d e = simp e

pub md-whole : (b : ℕ) (s : List ℕ) (d : Dealt) (x : Seat) → dealer_of b ≡ Some x → read_md (b ∷ s) d ≡ record { dealer = x; deal = deal_of (cut 0x2C s) }
unfolding read_md
md-whole b s d x e = simp e

-- so a later accepted md replaces both
pub md-later : {A : Type 0} (T : Text A) (ts : List (TokenOf A)) (c : List ℕ) (v : A) (b : ℕ) (s : List ℕ) (x : Seat)
    → is_command c (ascii "md") ≡ true → trim (T.bytes v) ≡ b ∷ s → dealer_of b ≡ Some x
    → (board_from T (ts ++ (token c v ∷ []))).dealt ≡ record { dealer = x; deal = deal_of (cut 0x2C s) }
unfolding board_from over
md-later T ts c v b s x h e k = over-append (on_dealt T) _ ts (token c v ∷ []) ∙ simp (h, e) (md-whole b s _ x k)

-- mc: "an optional `+`, then one or more digits, value at most 255", for any bound

-- s is digits t after an optional plus sign, with a value n within the bound
pub record Number (bound : ℕ) (s : List ℕ) (n : ℕ) : Type 0 where
  pub digits : List ℕ
  pub plus : Bool
  pub text : s ≡ pick plus (0x2B ∷ digits) digits
  pub some-digit : null digits ≡ false
  pub all_digits : all_digits digits ≡ true
  pub value : n ≡ value_from 0 digits
  pub within : n ≤ bound

-- the value is decimal: one digit more at the end
pub value-last : (n : ℕ) (t : List ℕ) (b : ℕ) → value_from n (t ++ (b ∷ [])) ≡ value_from n t * 10 + (b - 0x30)
unfolding value_from
value-last n [] b = refl
value-last n (a ∷ t) b = value-last (n * 10 + (a - 0x30)) t b

number-plain : (bound : ℕ) (s t : List ℕ) (n : ℕ) → after_plus s ≡ t → null t ≡ false → all_digits t ≡ true → n ≡ value_from 0 t → n ≤ bound → number_in bound s ≡ Some n
unfolding number_in
number-plain bound s t n a z d e w =
    let l : leb (value_from 0 t) bound ≡ true = le-leb (value_from 0 t) bound (rw e at w) in
    simp (a, z, d, l, e)

digit_no_plus : (t : List ℕ) → all_digits t ≡ true → after_plus t ≡ t
unfolding all
digit_no_plus [] h = refl
digit_no_plus (b ∷ t) h = go (eqb b 0x2B) refl
  where
    go : (x : Bool) → eqb b 0x2B ≡ x → pick x t (b ∷ t) ≡ b ∷ t
    go false e = refl
    go true e =
        let l = leb-true 0x30 b (and_left (leb 0x30 b) _ (and_left (leb 0x30 b && leb b 0x39) _ h)) in
        let z = eqb-true b 0x2B e in
        absurd (let w : ⊥ = omega arith in w)

pub number_is : (bound : ℕ) (s : List ℕ) (n : ℕ) → Number bound s n → number_in bound s ≡ Some n
number_is bound s n d = number-plain bound s d.digits n (go d.plus d.text) d.some-digit d.all_digits d.value d.within
  where
    go : (p : Bool) → s ≡ pick p (0x2B ∷ d.digits) d.digits → after_plus s ≡ d.digits
    go true e = ap after_plus e
    go false e = ap after_plus e ∙ digit_no_plus d.digits d.all_digits

record Plus (s : List ℕ) : Type 0 where
  plus : Bool
  text : s ≡ pick plus (0x2B ∷ after_plus s) (after_plus s)

plus_of : (s : List ℕ) → Plus s
plus_of [] = record { plus = false; text = refl }
plus_of (b ∷ s) = go (eqb b 0x2B) refl
  where
    go : (t : Bool) → eqb b 0x2B ≡ t → Plus (b ∷ s)
    go true e = record { plus = true; text = let z = eqb-true b 0x2B e in simp e (ap (λ (x : ℕ). x ∷ s) z) }
    go false e = record { plus = false; text = simp e }

abbrev NumberOr : (bound : ℕ) (s : List ℕ) → Option ℕ → Type 0
NumberOr bound s None = Unit
NumberOr bound s (Some n) = Number bound s n

number_or : (bound : ℕ) (s : List ℕ) → NumberOr bound s (number_in bound s)
unfolding number_in
number_or bound s =
    let t = after_plus s in
    let p = plus_of s in
    picked (NumberOr bound s) (not (null t) && (all_digits t && leb (value_from 0 t) bound))
    (λ e. record {
      digits = t;
      plus = p.plus;
      text = p.text;
      some-digit = not-false (null t) (and_left (not (null t)) _ e);
      all_digits = and_left (all_digits t) _ (and_right (not (null t)) _ e);
      value = refl;
      within = leb-true (value_from 0 t) bound (and_right (all_digits t) _ (and_right (not (null t)) _ e));
    })
    (λ _. tt)
  where
    not-false : (x : Bool) → not x ≡ true → x ≡ false
    not-false true h = absurd (false≢true h)
    not-false false h = refl

pub number-only : (bound : ℕ) (s : List ℕ) (n : ℕ) → number_in bound s ≡ Some n → Number bound s n
number-only bound s n e = subst (NumberOr bound s) e (number_or bound s)
