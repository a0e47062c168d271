-- What is read of bids: levels 1 to 7, so that at most 35 bids are lawful, and the least index of what is none. (02: N1)
-- Assumes nothing.
use Rattle.std.specs.Prelude.{None, Some, Option}
use Rattle.bridge_auction.specs.declared.calls.Strain.{Strain}
use Rattle.bridge_auction.specs.declared.calls.AuctionCall.{AuctionCall}
use Prim.Native.Nat.{ℕ, suc, ◌+◌, ◌≤◌}
use native.Mathlib.Omega.{arith}
use mathlib.Core.Path.{◌≡◌, refl, ap}
use mathlib.Core.Bool.{Bool, true, false, ◌&&◌}
use mathlib.Core.List.{List, [], ◌∷◌, ◌++◌, map}
use lib.Dec.{leb}
use lib.ListN.{length}
use borrow.Author.Tests.{leb-true}
use Rattle.lin_spec.specs.Base.{All, count_if, eq_list, ascii}
use Rattle.lin_spec.specs.White.{lower}
use Rattle.lin_spec.proofs.Base.{and_left, and_right, picked}
use Rattle.bridge_auction.specs.Auction.{is_bid, auction}
use Rattle.bridge_auction.specs.AuctionMeaning.{Real, NoneUnlawful}
use Rattle.auction.specs.CheckMeaning.{RealRead, FirstUnknown, AllForms}
use Rattle.auction.specs.Bids.{strain_by, bid_by, level_and_strain, read_lower, read_bid, known, unknown_from, call_by, calls_of}
use Rattle.lin_spec.specs.declared.Seat.{Seat}
use Rattle.bridge_auction.specs.declared.calls.Contract.{Contract}
use Rattle.bridge_auction.specs.declared.calls.Auction.TheVariants.{Ended}
use Rattle.bridge_auction.proofs.AuctionLaws.{auction-at_most_35, auction_level}
use Rattle.bridge_auction.proofs.LengthLaws.{auction-at_most_319}

-- "a level 1 to 7"
bid_real : (b : ℕ) (n : Option Strain) → RealRead (bid_by b n)
unfolding bid_by
bid_real b None = tt
bid_real b (Some t) =
    picked RealRead (leb 49 b && leb b 55)
    (λ e. let l : 49 ≤ b = leb-true 49 b (and_left (leb 49 b) (leb b 55) e) in let h : b ≤ 55 = leb-true b 55 (and_right (leb 49 b) (leb b 55) e) in (omega arith, omega arith))
    (λ _. tt)

level_real : (w : List ℕ) → RealRead (level_and_strain w)
unfolding level_and_strain
level_real [] = tt
level_real (b ∷ w) = bid_real b (strain_by w)

pub read_real : (s : List ℕ) → RealRead (read_bid s)
unfolding read_bid read_lower
read_real s =
    picked RealRead (eq_list (map lower s) (ascii "p")) (λ _. tt)
    (λ _. picked RealRead (eq_list (map lower s) (ascii "d")) (λ _. tt)
    (λ _. picked RealRead (eq_list (map lower s) (ascii "r")) (λ _. tt)
    (λ _. level_real (map lower s))))

call_real : (r : Option AuctionCall) → RealRead r → Real (call_by r)
call_real (Some c) h = h
call_real None h = tt

pub calls_real : (ss : List (List ℕ)) → All Real (calls_of ss)
unfolding calls_of
calls_real [] = tt
calls_real (s ∷ ss) = (call_real (read_bid s) (read_real s), calls_real ss)

-- so an auction without an unlawful call has at most 35 bids
pub read-at_most_35 : (d : Seat) (ss : List (List ℕ)) → NoneUnlawful d (calls_of ss) → count_if is_bid (calls_of ss) ≤ 35
read-at_most_35 d ss l = auction-at_most_35 d (calls_of ss) l (calls_real ss)

calls-long : (ss : List (List ℕ)) → length (calls_of ss) ≡ length ss
unfolding calls_of
calls-long [] = refl
calls-long (s ∷ ss) = ap suc (calls-long ss)

-- and at most 319 calls
pub read-at_most_319 : (d : Seat) (ss : List (List ℕ)) → NoneUnlawful d (calls_of ss) → length ss ≤ 319
read-at_most_319 d ss l = omega (arith, auction-at_most_319 d (calls_of ss) l (calls_real ss), calls-long ss)

-- and its contract has a level 1 to 7
pub read_level : (d : Seat) (ss : List (List ℕ)) (c : Contract) → auction d (calls_of ss) ≡ Ended c → (1 ≤ c.level) × (c.level ≤ 7)
read_level d ss c e = auction_level d (calls_of ss) c (calls_real ss) e

-- "with the least such index", and no other
pub unknown-first : (i : ℕ) (ss : List (List ℕ)) (j : ℕ) → unknown_from i ss ≡ Some j → FirstUnknown i ss j
unfolding unknown_from
unknown-first i [] j e = let z : ◌≡◌ {A = ℕ} 0 1 = cc in absurd (omega arith)
unknown-first i (s ∷ ss) j e = go (known (read_bid s)) refl (unknown-first (suc i) ss j)
  where
    go : (b : Bool) → known (read_bid s) ≡ b → (unknown_from (suc i) ss ≡ Some j → FirstUnknown (suc i) ss j) → FirstUnknown i (s ∷ ss) j
    go true k ih =
        let f : FirstUnknown (suc i) ss j = ih (simp k at e) in
        record { before = s ∷ f.before; bid = f.bid; rest = f.rest; split = ap (λ (l : List (List ℕ)). s ∷ l) f.split; index = omega (arith, f.index); fine = (k, f.fine); bad = f.bad }
    go false k ih =
        let v : Some i ≡ Some j = simp k at e in
        let n : i ≡ j = cc in
        record { before = []; bid = s; rest = ss; split = refl; index = omega arith; fine = tt; bad = k }

pub first-unknown : (i : ℕ) (ss : List (List ℕ)) (j : ℕ) → FirstUnknown i ss j → unknown_from i ss ≡ Some j
unfolding unknown_from
first-unknown i ss j f = rw f.split (go i f.before f.fine f.index)
  where
    go : (i : ℕ) (bs : List (List ℕ)) → AllForms bs → i + length bs ≡ j → unknown_from i (bs ++ (f.bid ∷ f.rest)) ≡ Some j
    go i [] a e = let b = f.bad in let k : i ≡ j = omega arith in simp b (ap Some k)
    go i (s ∷ bs) a e = let b = a.0 in simp b (go (suc i) bs a.1 (omega arith))

-- where there is none, every bid is of one of the forms
pub all_known : (i : ℕ) (ss : List (List ℕ)) → unknown_from i ss ≡ None → AllForms ss
unfolding unknown_from
all_known i [] e = tt
all_known i (s ∷ ss) e = go (known (read_bid s)) refl (all_known (suc i) ss)
  where
    go : (b : Bool) → known (read_bid s) ≡ b → (unknown_from (suc i) ss ≡ None → AllForms ss) → AllForms (s ∷ ss)
    go true k ih = (k, ih (simp k at e))
    go false k ih = let v : Some i ≡ None = simp k at e in let z : ◌≡◌ {A = ℕ} 0 1 = cc in absurd (omega arith)

pub known-all : (i : ℕ) (ss : List (List ℕ)) → AllForms ss → unknown_from i ss ≡ None
unfolding unknown_from
known-all i [] a = refl
known-all i (s ∷ ss) a = let b = a.0 in simp b (known-all (suc i) ss a.1)
