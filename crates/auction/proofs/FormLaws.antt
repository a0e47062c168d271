-- A bid is read exactly where its bytes, in small letters, are one of the 45 forms. (02: N1, "Read each bid, ignoring ASCII case, ..") Assumes nothing.
use Rattle.std.specs.Prelude.{Option, Some, None}
use Prim.Native.Nat.{ℕ, ◌≤◌, ◌<◌}
use native.Mathlib.Omega.{arith}
use mathlib.Core.Path.{◌≡◌, refl, sym, ◌∙◌}
use mathlib.Core.Bool.{Bool, true, false, ◌&&◌, ◌||◌, and-false, or_assoc}
use mathlib.Core.List.{List, [], ◌∷◌, map}
use lib.Dec.{eqb, leb}
use borrow.Author.Tests.{ne_eqb, lt-leb}
use Rattle.lin_spec.specs.Base.{pick, any, concat, eq_all, eq_list, ascii}
use Rattle.lin_spec.specs.White.{lower}
use Rattle.lin_spec.specs.Equality.{eq_flag}
use Rattle.lin_spec.proofs.Base.{split, all_below, below, any_append}
use Rattle.bridge_auction.specs.declared.calls.Strain.{Strain}
use Rattle.bridge_auction.specs.declared.calls.AuctionCall.{AuctionCall}
use Rattle.auction.specs.Bids.{strain_by, bid_by, level_and_strain, read_lower, read_bid, known}
use Rattle.auction.specs.CheckMeaning.{strain_words, bid_words, forms}

-- What is read, as a test

known-pick : (t : Bool) (c : AuctionCall) (r : Option AuctionCall) → known (pick t (Some c) r) ≡ (t || known r)
known-pick true c r = refl
known-pick false c r = refl

abbrev is_named : Option Strain → Bool
is_named (Some t) = true
is_named None = false

named-pick : (b : Bool) (t : Strain) (r : Option Strain) → is_named (pick b (Some t) r) ≡ (b || is_named r)
named-pick true t r = refl
named-pick false t r = refl

strain_words_lem : (u : List ℕ) → is_named (strain_by u) ≡ any (eq_list u) strain_words
unfolding strain_by strain_words any
strain_words_lem u = simp (named-pick, or_assoc)

known_some : (t : Bool) (c : AuctionCall) → known (pick t (Some c) None) ≡ t
known_some true c = refl
known_some false c = refl

known-bid : (b : ℕ) (n : Option Strain) → known (bid_by b n) ≡ ((leb 49 b && leb b 55) && is_named n)
unfolding bid_by
known-bid b None = sym (and-false (leb 49 b && leb b 55))
known-bid b (Some t) = known_some (leb 49 b && leb b 55) _ ∙ sym (and-true (leb 49 b && leb b 55))
  where
    and-true : (t : Bool) → (t && true) ≡ t
    and-true true = refl
    and-true false = refl

-- The words of the bids

with-digit : (b : ℕ) (u : List ℕ) (l : ℕ) (ts : List (List ℕ)) → any (eq_list (b ∷ u)) (map (λ (t : List ℕ). l ∷ t) ts) ≡ (eqb b l && any (eq_list u) ts)
unfolding any eq_all
with-digit b u l [] = sym (and-false (eqb b l))
with-digit b u l (t ∷ ts) = go (eqb b l) refl (with-digit b u l ts)
  where
    go : (x : Bool) → eqb b l ≡ x → any (eq_list (b ∷ u)) (map (λ (t : List ℕ). l ∷ t) ts) ≡ (eqb b l && any (eq_list u) ts) → any (eq_list (b ∷ u)) (map (λ (t : List ℕ). l ∷ t) (t ∷ ts)) ≡ (eqb b l && any (eq_list u) (t ∷ ts))
    go true e ih = let z = rw e at ih in simp (e, z)
    go false e ih = let z = rw e at ih in simp (e, z)

and_or : (x y z : Bool) → ((x && z) || (y && z)) ≡ ((x || y) && z)
and_or true true true = refl
and_or true true false = refl
and_or true false true = refl
and_or true false false = refl
and_or false y z = refl

with_digits : (b : ℕ) (u ls : List ℕ) → any (eq_list (b ∷ u)) (bid_words ls) ≡ (any (eqb b) ls && any (eq_list u) strain_words)
unfolding concat any
with_digits b u [] = refl
with_digits b u (l ∷ ls) =
    any_append (eq_list (b ∷ u)) (map (λ (t : List ℕ). l ∷ t) strain_words) (bid_words ls)
    ∙ simp (with-digit b u l strain_words, with_digits b u ls) (and_or (eqb b l) (any (eqb b) ls) (any (eq_list u) strain_words))

same_flag : (x y : Bool) → eq_flag x y ≡ true → x ≡ y
same_flag true true e = refl
same_flag true false e = sym e
same_flag false true e = e
same_flag false false e = refl

-- "a level 1 to 7"
seven_digits : (b : ℕ) → any (eqb b) (ascii "1234567") ≡ (leb 49 b && leb b 55)
unfolding any all_below
seven_digits b = split b 56 low high
  where
    low : b < 56 → any (eqb b) (ascii "1234567") ≡ (leb 49 b && leb b 55)
    low h = same_flag _ _ (below (λ (i : ℕ). eq_flag (any (eqb i) (ascii "1234567")) (leb 49 i && leb i 55)) 56 refl b h)

    high : 56 ≤ b → any (eqb b) (ascii "1234567") ≡ (leb 49 b && leb b 55)
    high h =
        let no : (n : ℕ) → n < 56 → eqb b n ≡ false = λ n k. ne_eqb b n (λ e. omega arith) in
        simp (no 49 (omega arith), no 50 (omega arith), no 51 (omega arith), no 52 (omega arith), no 53 (omega arith), no 54 (omega arith), no 55 (omega arith), lt-leb b 55 (omega arith), and-false)

no_digit : any (eq_list []) (bid_words (ascii "1234567")) ≡ false
unfolding strain_words concat any eq_all
no_digit = refl

bid-words : (w : List ℕ) → known (level_and_strain w) ≡ any (eq_list w) (bid_words (ascii "1234567"))
unfolding level_and_strain
bid-words [] = sym no_digit
bid-words (b ∷ u) = known-bid b (strain_by u) ∙ rw (← seven_digits b, strain_words_lem u) (sym (with_digits b u (ascii "1234567")))

-- "Read each bid, ignoring ASCII case, as p, d, r, or a level 1 to 7 with C, D, H, S, N or NT.": these and no others
pub known-forms : (s : List ℕ) → known (read_bid s) ≡ any (eq_list (map lower s)) forms
unfolding read_bid read_lower forms any
known-forms s = simp (known-pick, bid-words)
