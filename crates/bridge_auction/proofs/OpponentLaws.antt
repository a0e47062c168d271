-- A double is lawful exactly where it follows an opponent's bid, passes apart, and a redouble where it follows an opponent's double.
-- (02: N1, "passes apart, a double must follow an opponent's bid and a redouble an opponent's double") Assumes nothing.
use Prim.Native.Nat.{ℕ, suc, ◌+◌, ◌-◌, ◌%◌, ◌<◌, ◌≤◌}
use native.Mathlib.Omega.{arith}
use mathlib.Core.Path.{◌≡◌, refl, ap, sym, ◌∙◌}
use mathlib.Core.Bool.{Bool, true, false, ◌&&◌, false≢true}
use mathlib.Core.List.{List, [], ◌∷◌}
use lib.Dec.{eqb}
use lib.ListN.{length}
use borrow.Author.Tests.{eqb-true, eqb-false}
use Rattle.lin_spec.specs.declared.Seat.{Seat}
use Rattle.lin_spec.proofs.Base.{and_left, and_right}
use Rattle.bridge_auction.specs.Auction.{is_pass, is_bid, is_double, latest, passes, opponents, ended, follows, lawful}
use Rattle.bridge_auction.specs.AuctionMeaning.{made_at, FollowsOpponent}
use Rattle.bridge_auction.specs.declared.calls.AuctionCall.{AuctionCall}
use Rattle.bridge_auction.specs.declared.calls.AuctionCall.TheVariants.{Pass, Double, Redouble, Bid}
use Rattle.bridge_auction.proofs.AuctionLaws.{going, lawful-follows}
use Rattle.bridge_auction.proofs.DeclarerLaws.{call_now, latest_now, call-before, same-side, side_same}

-- "passes apart": the latest call that is no pass stands before the running passes
pub latest-there : (h : List AuctionCall) → is_pass (latest h) ≡ false → (d : ℕ) → d + suc (passes h) ≡ length h → made_at d h ≡ latest h
unfolding latest passes
latest-there [] e d k = absurd (false≢true (sym e))
latest-there (Pass ∷ h) e d k = call-before d Pass h (omega arith) ∙ latest-there h e d (omega arith)
latest-there (Double ∷ h) e d k = latest_now d Double h (omega arith)
latest-there (Redouble ∷ h) e d k = latest_now d Redouble h (omega arith)
latest-there (Bid l t ∷ h) e d k = latest_now d (Bid l t) h (omega arith)

-- "an opponent's": it is of the other side than the call to come, or else of the same
pub opponents-other : (h : List AuctionCall) (d : ℕ) → d + suc (passes h) ≡ length h → opponents h ≡ true → d % 2 ≡ length h % 2 → ⊥
unfolding opponents
opponents-other h d k e i = let p : passes h % 2 ≡ 0 = eqb-true _ _ e in omega arith

pub opponents-same : (h : List AuctionCall) (d : ℕ) → d + suc (passes h) ≡ length h → opponents h ≡ false → d % 2 ≡ length h % 2
unfolding opponents
opponents-same h d k e = let p : passes h % 2 ≡ 0 → ⊥ = eqb-false _ _ e in omega arith

-- The calls after it

passes-inside : (h : List AuctionCall) → is_pass (latest h) ≡ false → suc (passes h) ≤ length h
unfolding latest passes
passes-inside [] e = absurd (false≢true (sym e))
passes-inside (Pass ∷ h) e = omega (arith, passes-inside h e)
passes-inside (Double ∷ h) e = omega arith
passes-inside (Redouble ∷ h) e = omega arith
passes-inside (Bid l t ∷ h) e = omega arith

-- the running passes are the last calls
running : (h : List AuctionCall) (i : ℕ) → length h ≤ i + passes h → i < length h → is_pass (made_at i h) ≡ true
unfolding passes
running [] i k w = absurd (omega arith)
running (Pass ∷ h) i k w = go (eqb i (length h)) refl (running h i)
  where
    go : (b : Bool) → eqb i (length h) ≡ b → (length h ≤ i + passes h → i < length h → is_pass (made_at i h) ≡ true) → is_pass (made_at i (Pass ∷ h)) ≡ true
    go true q ih = rw (latest_now i Pass h (eqb-true _ _ q)) refl
    go false q ih = let d : i ≡ length h → ⊥ = eqb-false _ _ q in let p : i < length h = omega arith in rw (call-before i Pass h p) (ih (omega arith) p)
running (Double ∷ h) i k w = absurd (omega arith)
running (Redouble ∷ h) i k w = absurd (omega arith)
running (Bid l t ∷ h) i k w = absurd (omega arith)

-- a call that is no pass, with none but passes after it, is the latest that is none
last-latest : (c : AuctionCall) (h : List AuctionCall) → is_pass c ≡ false → (c ≡ latest (c ∷ h)) × (length h + suc (passes (c ∷ h)) ≡ suc (length h))
unfolding latest passes
last-latest Pass h e = absurd (false≢true (sym e))
last-latest Double h e = (refl, omega arith)
last-latest Redouble h e = (refl, omega arith)
last-latest (Bid l t) h e = (refl, omega arith)

pass_latest : (c : AuctionCall) (h : List AuctionCall) → is_pass c ≡ true → (latest (c ∷ h) ≡ latest h) × (passes (c ∷ h) ≡ suc (passes h))
unfolding latest passes
pass_latest c h e = simp e (refl, refl)

latest-is : (h : List AuctionCall) (d : ℕ) → d < length h → is_pass (made_at d h) ≡ false → ((i : ℕ) → d < i → i < length h → is_pass (made_at i h) ≡ true)
    → (made_at d h ≡ latest h) × (d + suc (passes h) ≡ length h)
latest-is [] d w n p = absurd (omega arith)
latest-is (c ∷ h) d w n p = go (eqb d (length h)) refl (latest-is h d)
  where
    now_is : d ≡ length h → (made_at d (c ∷ h) ≡ latest (c ∷ h)) × (d + suc (passes (c ∷ h)) ≡ length (c ∷ h))
    now_is e =
        let m = latest_now d c h e in
        let l = last-latest c h (ap is_pass (sym m) ∙ n) in
        (m ∙ l.0, rw e l.1)

    before-is : d < length h → ((made_at d h ≡ latest h) × (d + suc (passes h) ≡ length h)) → (made_at d (c ∷ h) ≡ latest (c ∷ h)) × (d + suc (passes (c ∷ h)) ≡ length (c ∷ h))
    before-is k ih =
        let l = pass_latest c h (ap is_pass (sym (call_now c h)) ∙ p (length h) k (omega arith)) in
        (call-before d c h k ∙ ih.0 ∙ sym l.0, omega (arith, ih.1, l.1))

    go : (b : Bool) → eqb d (length h) ≡ b
        → (d < length h → is_pass (made_at d h) ≡ false → ((i : ℕ) → d < i → i < length h → is_pass (made_at i h) ≡ true) → (made_at d h ≡ latest h) × (d + suc (passes h) ≡ length h))
        → (made_at d (c ∷ h) ≡ latest (c ∷ h)) × (d + suc (passes (c ∷ h)) ≡ length (c ∷ h))
    go true q ih = now_is (eqb-true _ _ q)
    go false q ih =
        let z : d ≡ length h → ⊥ = eqb-false _ _ q in
        let k : d < length h = omega arith in
        before-is k (ih k (ap is_pass (sym (call-before d c h k)) ∙ n) (λ i f g. ap is_pass (sym (call-before i c h g)) ∙ p i f (omega arith)))

-- Whose it is

module _ (dealer : Seat) (test : AuctionCall → Bool) (no-pass : test Pass ≡ false) where
  tested : (c : AuctionCall) → test c ≡ true → is_pass c ≡ false
  tested Pass e = absurd (false≢true (sym no-pass ∙ e))
  tested Double e = refl
  tested Redouble e = refl
  tested (Bid l t) e = refl

  follows_opponent : (h : List AuctionCall) → test (latest h) && opponents h ≡ true → FollowsOpponent dealer test h
  follows_opponent h e =
      let is : test (latest h) ≡ true = and_left _ _ e in
      let n = tested (latest h) is in
      let i = passes-inside h n in
      let d : ℕ = length h - suc (passes h) in
      let k : d + suc (passes h) ≡ length h = omega arith in
      record {
        index = d;
        inside = omega arith;
        does = ap test (latest-there h n d k) ∙ is;
        passed = λ j f g. running h j (omega arith) g;
        other = λ s. opponents-other h d k (and_right (test (latest h)) (opponents h) e) (side_same dealer d (length h) s);
      }

  opponent_follows : (h : List AuctionCall) → FollowsOpponent dealer test h → test (latest h) && opponents h ≡ true
  opponent_follows h f = go (opponents h) refl
    where
      at : (made_at f.index h ≡ latest h) × (f.index + suc (passes h) ≡ length h)
      at = latest-is h f.index f.inside (tested _ f.does) f.passed

      is : test (latest h) ≡ true
      is = ap test (sym at.0) ∙ f.does

      go : (b : Bool) → opponents h ≡ b → test (latest h) && opponents h ≡ true
      go true e = simp (is, e)
      go false e = absurd (f.other (same-side dealer f.index (length h) (opponents-same h f.index at.1 e)))

-- "a double must follow an opponent's bid": and one that does, before the end, is lawful
pub double_opponent : (d : Seat) (h : List AuctionCall) → lawful h Double ≡ true → FollowsOpponent d is_bid h
unfolding follows
double_opponent d h e = follows_opponent d is_bid refl h (lawful-follows h Double e)

pub opponent_double : (d : Seat) (h : List AuctionCall) → ended h ≡ false → FollowsOpponent d is_bid h → lawful h Double ≡ true
unfolding follows
opponent_double d h e f = going h Double e ∙ opponent_follows d is_bid refl h f

-- "and a redouble an opponent's double"
pub redouble_opponent : (d : Seat) (h : List AuctionCall) → lawful h Redouble ≡ true → FollowsOpponent d is_double h
unfolding follows
redouble_opponent d h e = follows_opponent d is_double refl h (lawful-follows h Redouble e)

pub opponent_redouble : (d : Seat) (h : List AuctionCall) → ended h ≡ false → FollowsOpponent d is_double h → lawful h Redouble ≡ true
unfolding follows
opponent_redouble d h e f = going h Redouble e ∙ opponent_follows d is_double refl h f
