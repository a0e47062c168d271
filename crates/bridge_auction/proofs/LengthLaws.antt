-- When a lawful auction ends, and that it has at most 319 calls: three passes, 35 bids with at most eight calls after each, and one pass more.
-- (02: N1, "The auction ends at four opening passes, or three running passes once a bid is made.") Assumes nothing.
use Prim.Native.Nat.{ℕ, suc, ◌+◌, ◌*◌, ◌≤◌}
use native.Mathlib.Omega.{arith}
use mathlib.Core.Path.{◌≡◌, refl, ap, sym, ◌∙◌}
use mathlib.Core.Bool.{Bool, true, false, false≢true}
use mathlib.Core.List.{List, [], ◌∷◌, reverse_aux}
use lib.Dec.{leb}
use lib.ListN.{length, replicate}
use borrow.Author.Tests.{leb-true, leb-false}
use Rattle.lin_spec.specs.Base.{All, keep, count_if}
use Rattle.lin_spec.specs.declared.Seat.{Seat}
use Rattle.bridge_auction.specs.Auction.{is_pass, is_bid, is_double, last_bid, latest, passes, opened, ended}
use Rattle.bridge_auction.specs.AuctionMeaning.{LawfulHistory, NoneUnlawful, Real, since_bid}
use Rattle.bridge_auction.specs.AuctionMeaning.LawfulHistory.{none, more}
use Rattle.bridge_auction.specs.declared.calls.AuctionCall.{AuctionCall}
use Rattle.bridge_auction.specs.declared.calls.AuctionCall.TheVariants.{Pass, Double, Redouble, Bid}
use Rattle.bridge_auction.proofs.AuctionLaws.{lawful_open, few-passes, at_most_35, at_most_redoubled, double_follows, redouble_follows, auction-all-lawful, all_turned}

-- before the end, once a bid is made, at most two passes run
few_once : (h : List AuctionCall) → opened h ≡ true → ended h ≡ false → passes h ≤ 2
unfolding ended
few_once h o e = let k : leb 3 (passes h) ≡ false = simp o at e in omega (arith, leb-false 3 (passes h) k)

-- so at most three run at the end, and four where there is no bid
passes-opened : {h : List AuctionCall} → LawfulHistory h → opened h ≡ true → passes h ≤ 3
unfolding passes opened last_bid
passes-opened none o = omega arith
passes-opened (more {h = h} {c = Pass} l e) o = omega (arith, few_once h o (lawful_open h Pass e))
passes-opened (more {c = Double} l e) o = omega arith
passes-opened (more {c = Redouble} l e) o = omega arith
passes-opened (more {c = Bid n t} l e) o = omega arith

passes-all : {h : List AuctionCall} → LawfulHistory h → passes h ≤ 4
unfolding passes
passes-all none = omega arith
passes-all (more {h = h} {c = Pass} l e) = omega (arith, few-passes h (lawful_open h Pass e))
passes-all (more {c = Double} l e) = omega arith
passes-all (more {c = Redouble} l e) = omega arith
passes-all (more {c = Bid n t} l e) = omega arith

bid_no_pass : (c : AuctionCall) → is_bid c ≡ true → is_pass c ≡ true → ⊥
bid_no_pass Pass b p = false≢true b
bid_no_pass Double b p = false≢true p
bid_no_pass Redouble b p = false≢true p
bid_no_pass (Bid l t) b p = false≢true p

double_no_pass : (c : AuctionCall) → is_double c ≡ true → is_pass c ≡ true → ⊥
double_no_pass Pass b p = false≢true b
double_no_pass Double b p = false≢true p
double_no_pass Redouble b p = false≢true p
double_no_pass (Bid l t) b p = false≢true p

-- where there is no bid, all calls are passes
all-passes : {h : List AuctionCall} → LawfulHistory h → opened h ≡ false → (length h ≡ passes h) × (is_pass (latest h) ≡ true)
unfolding passes opened last_bid latest
all-passes none o = (refl, refl)
all-passes (more {c = Pass} l e) o = (omega (arith, (all-passes l o).0), (all-passes l o).1)
all-passes (more {h = h} {c = Double} l e) o = absurd (bid_no_pass (latest h) (double_follows h e) (all-passes l o).1)
all-passes (more {h = h} {c = Redouble} l e) o = absurd (double_no_pass (latest h) (redouble_follows h e) (all-passes l o).1)
all-passes (more {c = Bid n t} l e) o = absurd (false≢true (sym o))

-- calls of which all are running passes
only-passes : (h : List AuctionCall) → length h ≡ passes h → h ≡ replicate (length h) Pass
unfolding passes
only-passes [] e = refl
only-passes (Pass ∷ h) e = ap (λ (r : List AuctionCall). Pass ∷ r) (only-passes h (omega arith))
only-passes (Double ∷ h) e = absurd (omega arith)
only-passes (Redouble ∷ h) e = absurd (omega arith)
only-passes (Bid l t ∷ h) e = absurd (omega arith)

-- "The auction ends at four opening passes"
pub ended-passed : {h : List AuctionCall} → LawfulHistory h → opened h ≡ false → ended h ≡ true → h ≡ Pass ∷ Pass ∷ Pass ∷ Pass ∷ []
unfolding ended
ended-passed {h} l o e =
    let k : leb 4 (passes h) ≡ true = simp o at e in
    let q = (all-passes l o).0 in
    let n : length h ≡ 4 = omega (arith, leb-true 4 (passes h) k, passes-all l) in
    only-passes h q ∙ ap (λ (m : ℕ). replicate m Pass) n

pub passed-ended : ended (Pass ∷ Pass ∷ Pass ∷ Pass ∷ []) ≡ true
unfolding ended opened last_bid passes
passed-ended = refl

-- "or three running passes once a bid is made."
pub ended-opened : {h : List AuctionCall} → LawfulHistory h → opened h ≡ true → ended h ≡ true → passes h ≡ 3
unfolding ended
ended-opened {h} l o e = let k : leb 3 (passes h) ≡ true = simp o at e in omega (arith, leb-true 3 (passes h) k, passes-opened l o)

pub opened-ended : (h : List AuctionCall) → opened h ≡ true → passes h ≡ 3 → ended h ≡ true
unfolding ended
opened-ended h o e = simp (o, e)

-- where there is one: nine calls for each bid but the last, three for each call since it that is no pass, and the running passes
long-by : {h : List AuctionCall} → LawfulHistory h → opened h ≡ true → length h + 5 ≤ 9 * count_if is_bid h + 3 * since_bid h + passes h
unfolding passes opened last_bid since_bid keep
long-by none o = absurd (false≢true o)
long-by (more {c = Pass} l e) o = omega (arith, long-by l o)
long-by (more {h = h} {c = Double} l e) o = omega (arith, long-by l o, few_once h o (lawful_open h Double e))
long-by (more {h = h} {c = Redouble} l e) o = omega (arith, long-by l o, few_once h o (lawful_open h Redouble e))
long-by (more {h = h} {c = Bid n t} l e) o = go (opened h) refl (long-by l)
  where
    go : (b : Bool) → opened h ≡ b → (opened h ≡ true → length h + 5 ≤ 9 * count_if is_bid h + 3 * since_bid h + passes h) → suc (length h) + 5 ≤ 9 * suc (count_if is_bid h) + 0 + 0
    go true i ih = omega (arith, ih i, few_once h i (lawful_open h (Bid n t) e), at_most_redoubled l)
    go false i ih = omega (arith, (all-passes l i).0, few-passes h (lawful_open h (Bid n t) e))

-- a lawful auction has at most 319 calls
pub at_most_319 : {h : List AuctionCall} → LawfulHistory h → All Real h → length h ≤ 319
at_most_319 {h} l a = go (opened h) refl
  where
    go : (b : Bool) → opened h ≡ b → length h ≤ 319
    go true i = omega (arith, long-by l i, at_most_35 l a, at_most_redoubled l, passes-opened l i)
    go false i = omega (arith, (all-passes l i).0, passes-all l)

long_turned : (s h : List AuctionCall) → length (reverse_aux s h) ≡ length s + length h
long_turned [] h = omega arith
long_turned (c ∷ s) h = omega (arith, long_turned s (c ∷ h))

-- the same of the calls as they were made
pub auction-at_most_319 : (d : Seat) (s : List AuctionCall) → NoneUnlawful d s → All Real s → length s ≤ 319
auction-at_most_319 d s n a = omega (arith, at_most_319 (auction-all-lawful d s n) (all_turned Real s [] a tt), long_turned s [])
