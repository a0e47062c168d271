-- What the answer about a list of calls means: the least index of an unlawful call, nothing lawful after the end, bids that rise and are at
-- most 35, the doubling, the level. (02: N1, "lawful and ended, lawful and open, or the index of the first unlawful call") Assumes nothing.
use Prim.Native.Nat.{ℕ, suc, ◌+◌, ◌<◌, ◌≤◌}
use native.Mathlib.Omega.{arith}
use mathlib.Core.Path.{◌≡◌, refl, ap, sym, ◌∙◌}
use mathlib.Core.Bool.{Bool, true, false, false≢true}
use mathlib.Core.List.{List, [], ◌∷◌, ◌++◌, reverse, reverse_aux, reverse_aux-eq}
use lib.Dec.{leb}
use lib.ListN.{length}
use borrow.Author.Tests.{ltb-true, leb-false}
use Rattle.lin_spec.specs.Base.{pick, All, keep, count_if}
use Rattle.lin_spec.specs.declared.Seat.{Seat}
use Rattle.lin_spec.proofs.Base.{picked, and_left}
use Rattle.bridge_auction.specs.Auction.{is_bid, is_double, doubling_of, doubling_number, rank, last_bid, latest, passes, opened, ended, follows, lawful, contract, outcome, auction_after, auction}
use Rattle.bridge_auction.specs.AuctionMeaning.{LawfulHistory, FirstUnlawful, NoneUnlawful, Real, since_bid}
use Rattle.bridge_auction.specs.AuctionMeaning.LawfulHistory.{none, more}
use Rattle.bridge_auction.specs.declared.calls.Strain.{Strain}
use Rattle.bridge_auction.specs.declared.calls.AuctionCall.{AuctionCall}
use Rattle.bridge_auction.specs.declared.calls.AuctionCall.TheVariants.{Pass, Double, Redouble, Bid}
use Rattle.bridge_auction.specs.declared.calls.Doubling.TheVariants.{Undoubled}
use Rattle.bridge_auction.specs.declared.calls.Contract.{Contract}
use Rattle.bridge_auction.specs.declared.calls.Auction.{Auction}
use Rattle.bridge_auction.specs.declared.calls.Auction.TheVariants.{PassedOut, Ended, Open, Unlawful}
use Rattle.bridge_auction.proofs.NameLaws.{five}

-- One call

-- "a call after the end is unlawful"
pub no_more : (h : List AuctionCall) (c : AuctionCall) → ended h ≡ true → lawful h c ≡ false
unfolding lawful
no_more h c e = simp e

-- before the end a call is lawful where it follows
pub going : (h : List AuctionCall) (c : AuctionCall) → ended h ≡ false → lawful h c ≡ follows h c
unfolding lawful
going h c e = simp e

-- a lawful call comes before the end
pub lawful_open : (h : List AuctionCall) (c : AuctionCall) → lawful h c ≡ true → ended h ≡ false
unfolding lawful
lawful_open h c e = go (ended h) refl
  where
    go : (b : Bool) → ended h ≡ b → ended h ≡ false
    go true i = absurd (false≢true (simp i at e))
    go false i = i

-- and follows
pub lawful-follows : (h : List AuctionCall) (c : AuctionCall) → lawful h c ≡ true → follows h c ≡ true
lawful-follows h c e = sym (going h c (lawful_open h c e)) ∙ e

-- one step of the definition, at a lawful call and at another
pub auction-on : (d : Seat) (h : List AuctionCall) (c : AuctionCall) (s : List AuctionCall) → lawful h c ≡ true → auction_after d h (c ∷ s) ≡ auction_after d (c ∷ h) s
unfolding auction_after
auction-on d h c s e = simp e

pub auction-stop : (d : Seat) (h : List AuctionCall) (c : AuctionCall) (s : List AuctionCall) → lawful h c ≡ false → auction_after d h (c ∷ s) ≡ Unlawful (length h)
unfolding auction_after
auction-stop d h c s e = simp e

-- The answer

-- lawful calls are passed over
through : (d : Seat) {h : List AuctionCall} (s : List AuctionCall) → LawfulHistory h → auction d (reverse_aux h s) ≡ auction_after d h s
unfolding auction
through d s none = refl
through d s (more {h} {c} l e) = through d (c ∷ s) l ∙ auction-on d h c s e

-- "lawful and ended, lawful and open": an auction of which every call is lawful is what its history says
pub auction-lawful : (d : Seat) {h : List AuctionCall} → LawfulHistory h → auction d (reverse h) ≡ outcome d h
unfolding auction_after
auction-lawful d l = through d [] l

outcome-lawful : (d : Seat) (h : List AuctionCall) (i : ℕ) → outcome d h ≡ Unlawful i → ⊥
unfolding outcome contract
outcome-lawful d h i =
    picked (λ (v : Auction). v ≡ Unlawful i → ⊥) (ended h)
    (λ _. picked (λ (v : Auction). v ≡ Unlawful i → ⊥) (opened h) (λ _ e. let z : ◌≡◌ {A = ℕ} 0 1 = cc in omega arith) (λ _ e. let z : ◌≡◌ {A = ℕ} 0 1 = cc in omega arith))
    (λ _ e. let z : ◌≡◌ {A = ℕ} 0 1 = cc in omega arith)

first-after : (d : Seat) {h : List AuctionCall} (s : List AuctionCall) (i : ℕ) → LawfulHistory h → auction_after d h s ≡ Unlawful i → FirstUnlawful (reverse_aux h s) i
unfolding auction_after
first-after d {h} [] i l e = absurd (outcome-lawful d h i e)
first-after d {h} (c ∷ s) i l e = go (lawful h c) refl (first-after d {h = c ∷ h} s i)
  where
    go : (b : Bool) → lawful h c ≡ b → (LawfulHistory (c ∷ h) → auction_after d (c ∷ h) s ≡ Unlawful i → FirstUnlawful (reverse_aux h (c ∷ s)) i) → FirstUnlawful (reverse_aux h (c ∷ s)) i
    go true k ih = ih (more l k) (sym (auction-on d h c s k) ∙ e)
    go false k ih =
        let v : Unlawful (length h) ≡ Unlawful i = sym (auction-stop d h c s k) ∙ e in
        record { before = h; call = c; rest = s; split = reverse_aux-eq h (c ∷ s); index = cc; fine = l; bad = k }

-- "or the index of the first unlawful call", and no other index
pub auction-first : (d : Seat) (s : List AuctionCall) (i : ℕ) → auction d s ≡ Unlawful i → FirstUnlawful s i
unfolding auction
auction-first d s i e = first-after d s i none e

-- and where there is one, it is answered
pub first-auction : (d : Seat) (s : List AuctionCall) (i : ℕ) → FirstUnlawful s i → auction d s ≡ Unlawful i
first-auction d s i f =
    ap (auction d) (f.split ∙ sym (reverse_aux-eq f.before _)) ∙ through d _ f.fine ∙ auction-stop d f.before f.call f.rest f.bad ∙ ap Unlawful f.index

-- "a call after the end is unlawful": whatever is called, a pass too
pub auction-past-end : (d : Seat) {h : List AuctionCall} (c : AuctionCall) (s : List AuctionCall) → LawfulHistory h → ended h ≡ true → auction d (reverse h ++ (c ∷ s)) ≡ Unlawful (length h)
auction-past-end d {h} c s l e = first-auction d _ _ (record { before = h; call = c; rest = s; split = refl; index = refl; fine = l; bad = no_more h c e })

-- a list of calls that is not answered by an index has only lawful calls
lawful-after : (d : Seat) {h : List AuctionCall} (s : List AuctionCall) → LawfulHistory h → ((i : ℕ) → auction_after d h s ≡ Unlawful i → ⊥) → LawfulHistory (reverse_aux s h)
lawful-after d [] l n = l
lawful-after d {h} (c ∷ s) l n = go (lawful h c) refl (lawful-after d {h = c ∷ h} s)
  where
    go : (b : Bool) → lawful h c ≡ b → (LawfulHistory (c ∷ h) → ((i : ℕ) → auction_after d (c ∷ h) s ≡ Unlawful i → ⊥) → LawfulHistory (reverse_aux s (c ∷ h))) → LawfulHistory (reverse_aux s (c ∷ h))
    go true k ih = ih (more l k) (λ i e. n i (auction-on d h c s k ∙ e))
    go false k ih = absurd (n (length h) (auction-stop d h c s k))

-- "lawful": an auction that is not answered by an index has only lawful calls
pub auction-all-lawful : (d : Seat) (s : List AuctionCall) → NoneUnlawful d s → LawfulHistory (reverse s)
unfolding auction
auction-all-lawful d s n = lawful-after d s none n

-- "lawful and ended, lawful and open": and it is what its calls, the latest first, say
outcome-after : (d : Seat) (h s : List AuctionCall) → ((i : ℕ) → auction_after d h s ≡ Unlawful i → ⊥) → auction_after d h s ≡ outcome d (reverse_aux s h)
unfolding auction_after
outcome-after d h [] n = refl
outcome-after d h (c ∷ s) n = go (lawful h c) refl (outcome-after d (c ∷ h) s)
  where
    go : (b : Bool) → lawful h c ≡ b → (((i : ℕ) → auction_after d (c ∷ h) s ≡ Unlawful i → ⊥) → auction_after d (c ∷ h) s ≡ outcome d (reverse_aux s (c ∷ h))) → auction_after d h (c ∷ s) ≡ outcome d (reverse_aux s (c ∷ h))
    go true k ih = auction-on d h c s k ∙ ih (λ i e. n i (auction-on d h c s k ∙ e))
    go false k ih = absurd (n (length h) (auction-stop d h c s k))

pub auction-outcome : (d : Seat) (s : List AuctionCall) → NoneUnlawful d s → auction d s ≡ outcome d (reverse s)
unfolding auction
auction-outcome d s n = outcome-after d [] s n

-- The bids

rank-some : (l : ℕ) (t : Strain) → 0 < rank (Bid l t)
unfolding rank
rank-some l t = omega arith

-- "a bid must outrank the last one"
pub outranks : (h : List AuctionCall) (l : ℕ) (t : Strain) → lawful h (Bid l t) ≡ true → rank (last_bid h) < rank (Bid l t)
unfolding follows
outranks h l t e = ltb-true _ _ (lawful-follows h (Bid l t) e)

-- what outranks the last bid outranks each of them
below_more : (n m : ℕ) (h : List AuctionCall) → n ≤ m → All (λ (c : AuctionCall). rank c ≤ n) h → All (λ (c : AuctionCall). rank c ≤ m) h
below_more n m [] k a = a
below_more n m (c ∷ h) k a = (omega (arith, a.0), below_more n m h k a.1)

last_highest : {h : List AuctionCall} → LawfulHistory h → All (λ (c : AuctionCall). rank c ≤ rank (last_bid h)) h
unfolding last_bid rank
last_highest none = tt
last_highest (more {c = Pass} l e) = (omega arith, last_highest l)
last_highest (more {c = Double} l e) = (omega arith, last_highest l)
last_highest (more {c = Redouble} l e) = (omega arith, last_highest l)
last_highest (more {h = h} {c = Bid n t} l e) = (omega arith, below_more _ _ h (omega (arith, outranks h n t e)) (last_highest l))

strictly : (n m : ℕ) (h : List AuctionCall) → n < m → All (λ (c : AuctionCall). rank c ≤ n) h → All (λ (c : AuctionCall). rank c < m) h
strictly n m [] k a = a
strictly n m (c ∷ h) k a = (omega (arith, a.0), strictly n m h k a.1)

-- "a bid must outrank the last one": the bids of a lawful auction rise strictly, each outranks all that were before it
pub bids_rise : {h : List AuctionCall} (l : ℕ) (t : Strain) → LawfulHistory (Bid l t ∷ h) → All (λ (c : AuctionCall). rank c < rank (Bid l t)) h
bids_rise {h} l t (more k e) = strictly _ _ h (outranks h l t e) (last_highest k)

-- so there are no more of them than the last one's rank
few_bids : {h : List AuctionCall} → LawfulHistory h → count_if is_bid h ≤ rank (last_bid h)
unfolding last_bid keep
few_bids none = omega arith
few_bids (more {c = Pass} l e) = few_bids l
few_bids (more {c = Double} l e) = few_bids l
few_bids (more {c = Redouble} l e) = few_bids l
few_bids (more {h = h} {c = Bid n t} l e) = omega (arith, few_bids l, outranks h n t e)

last_real : (h : List AuctionCall) → All Real h → rank (last_bid h) ≤ 35
unfolding last_bid rank
last_real [] a = omega arith
last_real (Pass ∷ h) a = last_real h a.1
last_real (Double ∷ h) a = last_real h a.1
last_real (Redouble ∷ h) a = last_real h a.1
last_real (Bid l t ∷ h) a = omega (arith, a.0.0, a.0.1, five t)

-- "a level 1 to 7 with C, D, H, S, N": a lawful auction has at most 35 bids
pub at_most_35 : {h : List AuctionCall} → LawfulHistory h → All Real h → count_if is_bid h ≤ 35
at_most_35 {h} l a = omega (arith, few_bids l, last_real h a)

-- the calls in the other order: their bids are as many, and their levels are the same
pub all_turned : (P : AuctionCall → Type 0) (s h : List AuctionCall) → All P s → All P h → All P (reverse_aux s h)
all_turned P [] h a b = b
all_turned P (c ∷ s) h a b = all_turned P s (c ∷ h) a.1 (a.0, b)

bids_cons : (c : AuctionCall) (s : List AuctionCall) → count_if is_bid (c ∷ s) ≡ pick (is_bid c) 1 0 + count_if is_bid s
unfolding keep
bids_cons Pass s = omega arith
bids_cons Double s = omega arith
bids_cons Redouble s = omega arith
bids_cons (Bid l t) s = omega arith

bids_none : count_if is_bid [] ≡ 0
unfolding keep
bids_none = refl

bids_turned : (s h : List AuctionCall) → count_if is_bid (reverse_aux s h) ≡ count_if is_bid s + count_if is_bid h
bids_turned [] h = omega (arith, bids_none)
bids_turned (c ∷ s) h = omega (arith, bids_turned s (c ∷ h), bids_cons c s, bids_cons c h)

-- the same of the calls as they were made
pub auction-at_most_35 : (d : Seat) (s : List AuctionCall) → NoneUnlawful d s → All Real s → count_if is_bid s ≤ 35
auction-at_most_35 d s n a = omega (arith, at_most_35 (auction-all-lawful d s n) (all_turned Real s [] a tt), bids_turned s [], bids_none)

-- The contract

-- "a level 1 to 7": a contract's level, if all bids have one
pub contract_level : (d : Seat) (h : List AuctionCall) → All Real h → opened h ≡ true → (1 ≤ (contract d h).level) × ((contract d h).level ≤ 7)
unfolding contract opened last_bid
contract_level d [] a e = absurd (false≢true e)
contract_level d (Pass ∷ h) a e = contract_level d h a.1 e
contract_level d (Double ∷ h) a e = contract_level d h a.1 e
contract_level d (Redouble ∷ h) a e = contract_level d h a.1 e
contract_level d (Bid l t ∷ h) a e = a.0

-- "An ended auction with a bid also gives the contract": that of its calls
outcome-contract : (d : Seat) (h : List AuctionCall) (c : Contract) → outcome d h ≡ Ended c → (opened h ≡ true) × (c ≡ contract d h)
unfolding outcome
outcome-contract d h c e = go (ended h) refl (opened h) refl
  where
    go : (b : Bool) → ended h ≡ b → (a : Bool) → opened h ≡ a → (opened h ≡ true) × (c ≡ contract d h)
    go true i true o = let z : Ended (contract d h) ≡ Ended c = simp (i, o) at e in let y : contract d h ≡ c = cc in (o, sym y)
    go true i false o = let z : PassedOut ≡ Ended c = simp (i, o) at e in absurd (let y : ◌≡◌ {A = ℕ} 0 1 = cc in omega arith)
    go false i a o = let z : Open ≡ Ended c = simp i at e in absurd (let y : ◌≡◌ {A = ℕ} 0 1 = cc in omega arith)

pub auction-contract : (d : Seat) (s : List AuctionCall) (c : Contract) → auction d s ≡ Ended c → (opened (reverse s) ≡ true) × (c ≡ contract d (reverse s))
auction-contract d s c e = outcome-contract d (reverse s) c (sym (auction-outcome d s none_unlawful) ∙ e)
  where
    none_unlawful : NoneUnlawful d s
    none_unlawful i f = let z : Ended c ≡ Unlawful i = sym e ∙ f in let y : ◌≡◌ {A = ℕ} 0 1 = cc in omega arith

-- the level of a contract of an auction whose bids have levels 1 to 7
pub auction_level : (d : Seat) (s : List AuctionCall) (c : Contract) → All Real s → auction d s ≡ Ended c → (1 ≤ c.level) × (c.level ≤ 7)
auction_level d s c a e = let k = auction-contract d s c e in rw k.1 (contract_level d (reverse s) (all_turned Real s [] a tt) k.0)

-- a lawful double has a bid, and a lawful redouble a double, for the latest call that is no pass
pub double_follows : (h : List AuctionCall) → lawful h Double ≡ true → is_bid (latest h) ≡ true
unfolding follows
double_follows h e = and_left _ _ (lawful-follows h Double e)

pub redouble_follows : (h : List AuctionCall) → lawful h Redouble ≡ true → is_double (latest h) ≡ true
unfolding follows
redouble_follows h e = and_left _ _ (lawful-follows h Redouble e)

-- a bid is not doubled, a double doubles
bid_undoubled : (c : AuctionCall) → is_bid c ≡ true → doubling_number (doubling_of c) ≡ 0
bid_undoubled Pass e = refl
bid_undoubled Double e = absurd (false≢true e)
bid_undoubled Redouble e = absurd (false≢true e)
bid_undoubled (Bid l t) e = refl

double_doubles : (c : AuctionCall) → is_double c ≡ true → doubling_number (doubling_of c) ≡ 1
double_doubles Pass e = absurd (false≢true e)
double_doubles Double e = refl
double_doubles Redouble e = absurd (false≢true e)
double_doubles (Bid l t) e = absurd (false≢true e)

-- "doubling included": the doubling is the number of calls other than passes since the last bid
pub doubling_counts : {h : List AuctionCall} → LawfulHistory h → doubling_number (doubling_of (latest h)) ≡ since_bid h
unfolding latest since_bid
doubling_counts none = refl
doubling_counts (more {c = Pass} l e) = doubling_counts l
doubling_counts (more {h = h} {c = Double} l e) = ap suc (sym (bid_undoubled (latest h) (double_follows h e)) ∙ doubling_counts l)
doubling_counts (more {h = h} {c = Redouble} l e) = ap suc (sym (double_doubles (latest h) (redouble_follows h e)) ∙ doubling_counts l)
doubling_counts (more {c = Bid n t} l e) = refl

doubling_two : (c : AuctionCall) → doubling_number (doubling_of c) ≤ 2
doubling_two Pass = omega arith
doubling_two Double = omega arith
doubling_two Redouble = omega arith
doubling_two (Bid l t) = omega arith

-- so these are 0, 1 or 2
pub at_most_redoubled : {h : List AuctionCall} → LawfulHistory h → since_bid h ≤ 2
at_most_redoubled {h} l = omega (arith, doubling_counts l, doubling_two (latest h))

-- "doubling included": a new bid cancels a double
pub bid_cancels : (d : Seat) (l : ℕ) (t : Strain) (h : List AuctionCall) → (contract d (Bid l t ∷ h)).doubling ≡ Undoubled
unfolding contract latest
bid_cancels d l t h = refl

-- The passes

-- before the end at most three passes run
below_four : (n p : ℕ) → n ≤ 4 → leb n p ≡ false → p ≤ 3
below_four n p k e = omega (arith, leb-false n p e)

pub few-passes : (h : List AuctionCall) → ended h ≡ false → passes h ≤ 3
unfolding ended
few-passes h e = go (opened h) refl
  where
    go : (b : Bool) → opened h ≡ b → passes h ≤ 3
    go true i = below_four 3 (passes h) (omega arith) (simp i at e)
    go false i = below_four 4 (passes h) (omega arith) (simp i at e)
