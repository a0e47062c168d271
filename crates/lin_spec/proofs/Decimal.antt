-- Laws of decimal: a digit more at the end, and adequacy: a number's digits are digits, give it back, and begin with no needless zero.
-- (01: Program linlist; Board, mc)
-- Assumes nothing.
use Rattle.std.specs.Prelude.{Some}
use Prim.Native.Nat.{ℕ, zero, suc, ◌+◌, ◌*◌, ◌/◌, ◌%◌, ◌≤◌, ◌<◌}
use native.Mathlib.Omega.{arith}
use mathlib.Core.Path.{◌≡◌, refl, ap, sym, ◌∙◌}
use mathlib.Core.Bool.{Bool, true, false, ◌&&◌}
use mathlib.Core.List.{List, [], ◌∷◌, ◌++◌}
use lib.ListN.{length, get_or, length-append}
use borrow.Author.Tests.{lt-ltb, le-ltb, le-leb}
use Rattle.lin_spec.specs.Base.{null, all}
use Rattle.lin_spec.specs.Board.{is_digit, all_digits, value_from, number_in}
use Rattle.lin_spec.specs.Decimal.{digit, digits_of, decimal}
use Rattle.lin_spec.proofs.Base.{split}
use Rattle.lin_spec.proofs.Rules.{value-last, number_is}

digits_short : (m n : ℕ) → n < 10 → digits_of m n ≡ digit n ∷ []
unfolding digits_of
digits_short zero n h = refl
digits_short (suc m) n h = simp (lt-ltb n 10 h)

digits_long : (m n : ℕ) → 10 ≤ n → digits_of (suc m) n ≡ digits_of m (n / 10) ++ (digit (n % 10) ∷ [])
unfolding digits_of
digits_long m n h = simp (le-ltb n 10 h)

-- more room for digits than needed changes nothing
enough : (m k n : ℕ) → n ≤ m → n ≤ k → digits_of m n ≡ digits_of k n
enough zero k n h l = digits_short zero n (omega arith) ∙ sym (digits_short k n (omega arith))
enough (suc m) zero n h l = digits_short (suc m) n (omega arith) ∙ sym (digits_short zero n (omega arith))
enough (suc m) (suc k) n h l = go (enough m k (n / 10))
  where
    go : (n / 10 ≤ m → n / 10 ≤ k → digits_of m (n / 10) ≡ digits_of k (n / 10)) → digits_of (suc m) n ≡ digits_of (suc k) n
    go ih =
        split n 10 (λ w. digits_short (suc m) n w ∙ sym (digits_short (suc k) n w))
        (λ w. digits_long m n w ∙ ap (λ (s : List ℕ). s ++ (digit (n % 10) ∷ [])) (ih (omega arith) (omega arith)) ∙ sym (digits_long k n w))

-- one digit, or one more at the end
pub decimal-short : (n : ℕ) → n < 10 → decimal n ≡ digit n ∷ []
unfolding decimal
decimal-short n h = digits_short n n h

pub decimal-long : (n : ℕ) → 10 ≤ n → decimal n ≡ decimal (n / 10) ++ (digit (n % 10) ∷ [])
unfolding decimal
decimal-long (suc n) h = digits_long n (suc n) h ∙ ap (λ (s : List ℕ). s ++ (digit (suc n % 10) ∷ [])) (enough n (suc n / 10) (suc n / 10) (omega arith) (omega arith))
decimal-long zero h = absurd (let z : ⊥ = omega arith in z)

pub length-short : (n : ℕ) → n < 10 → length (decimal n) ≡ 1
length-short n h = ap length (decimal-short n h)

pub length-long : (n : ℕ) → 10 ≤ n → length (decimal n) ≡ length (decimal (n / 10)) + 1
length-long n h = ap length (decimal-long n h) ∙ length-append (decimal (n / 10)) _

-- ten times the number has at most one digit more
pub more_digits : (m k : ℕ) → ((n : ℕ) → n < m → length (decimal n) ≤ k) → (n : ℕ) → n < 10 * m → length (decimal n) ≤ k + 1
more_digits m k f n h =
    split n 10 (λ l. let e = length-short n l in omega arith) (λ l. let e = length-long n l in let g = f (n / 10) (omega arith) in omega arith)

-- what holds of one digit, and of a digit more if it holds without it, holds of a number and its digits
module _ (P : ℕ → List ℕ → Type 0) (one : (n : ℕ) → n < 10 → P n (digit n ∷ []))
    (more : (n : ℕ) → 10 ≤ n → (s : List ℕ) → P (n / 10) s → P n (s ++ (digit (n % 10) ∷ []))) where
  by-room : (m n : ℕ) → n ≤ m → P n (digits_of m n)
  by-room zero n h = rw (digits_short zero n (omega arith)) (one n (omega arith))
  by-room (suc m) n h = go (by-room m (n / 10))
    where
      go : (n / 10 ≤ m → P (n / 10) (digits_of m (n / 10))) → P n (digits_of (suc m) n)
      go ih =
          split n 10 (λ w. rw (digits_short (suc m) n w) (one n w))
          (λ w. rw (digits_long m n w) (more n w (digits_of m (n / 10)) (ih (omega arith))))

  pub by_digits : (n : ℕ) → P n (decimal n)
  unfolding decimal
  by_digits n = by-room n n (omega arith)

-- its value is the number
pub decimal-value : (n : ℕ) → value_from 0 (decimal n) ≡ n
unfolding value_from
decimal-value =
    by_digits (λ n s. value_from 0 s ≡ n) (λ n h. omega arith)
    (λ n h s e. value-last 0 s (digit (n % 10)) ∙ (let z : value_from 0 s ≡ n / 10 = e in omega arith))

-- each byte is a digit
digit-is : (n : ℕ) → n < 10 → is_digit (digit n) ≡ true
digit-is n h = let a = le-leb 0x30 (digit n) (omega arith) in let b = le-leb (digit n) 0x39 (omega arith) in simp (a, b)

all-last : (s : List ℕ) (b : ℕ) → all_digits s ≡ true → is_digit b ≡ true → all_digits (s ++ (b ∷ [])) ≡ true
unfolding all
all-last [] b h k = simp k
all-last (a ∷ s) b h k = go (is_digit a) refl h (all-last s b)
  where
    go : (t : Bool) → is_digit a ≡ t → (t && all_digits s) ≡ true → (all_digits s ≡ true → is_digit b ≡ true → all_digits (s ++ (b ∷ [])) ≡ true) → (is_digit a && all_digits (s ++ (b ∷ []))) ≡ true
    go true e h ih = simp (e, ih h k)
    go false e h ih = simp e h

pub decimal_digits : (n : ℕ) → all_digits (decimal n) ≡ true
unfolding all
decimal_digits =
    by_digits (λ _ s. all_digits s ≡ true) (λ n h. let z = digit-is n h in simp z)
    (λ n h s e. all-last s (digit (n % 10)) e (digit-is (n % 10) (omega arith)))

-- it is never empty, and its first byte is `0` only if the number is 0
pub record Led (n : ℕ) (s : List ℕ) : Type 0 where
  pub some-digit : null s ≡ false
  pub no_zero : get_or s 0 0 ≡ 0x30 → n ≡ 0

led_last : (n : ℕ) → 10 ≤ n → (s : List ℕ) (b : ℕ) → Led (n / 10) s → Led n (s ++ (b ∷ []))
led_last n h [] b l = record { some-digit = refl; no_zero = λ _. let z : ◌≡◌ {A = ℕ} 0 1 = let f = l.some-digit in cc in omega arith }
led_last n h (a ∷ s) b l = record { some-digit = refl; no_zero = λ e. let z = l.no_zero e in omega arith }

pub decimal_led : (n : ℕ) → Led n (decimal n)
decimal_led = by_digits Led (λ n h. record { some-digit = refl; no_zero = λ e. omega arith }) (λ n h s l. led_last n h s _ l)

-- read as mc's digits it is the number again: "value at most 255", for any bound
pub decimal-read : (bound n : ℕ) → n ≤ bound → number_in bound (decimal n) ≡ Some n
decimal-read bound n h =
    number_is bound (decimal n) n
    (record {
      digits = decimal n;
      plus = false;
      text = refl;
      some-digit = (decimal_led n).some-digit;
      all_digits = decimal_digits n;
      value = sym (decimal-value n);
      within = h;
    })
