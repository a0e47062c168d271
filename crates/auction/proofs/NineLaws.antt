-- When the check refuses by 9 and when it answers: 9 is found after 1, 8, 5 and 6, over all bids, before any law of the auction is looked at. (02: N1, "9, a
-- bid is none of these forms, with the least such index, checked after 5 and 6") Assumes nothing.
use Rattle.std.specs.Prelude.{Option, None, Some, Err, Ok}
use Prim.Native.Nat.{ℕ, ◌≤◌}
use native.Mathlib.Omega.{arith}
use mathlib.Core.Path.{◌≡◌, refl, ap, sym, ◌∙◌}
use mathlib.Core.Bool.{Bool}
use mathlib.Core.List.{List}
use lib.ListN.{length}
use borrow.Author.Tests.{le-ltb, ltb-false}
use Rattle.lin_spec.specs.Records.{limit}
use Rattle.lin_spec.specs.Refusals.{Answer, unless}
use Rattle.lin_spec.specs.declared.Call.{Call}
use Rattle.lin_spec.specs.declared.Seat.{Seat}
use Rattle.lin_spec.specs.declared.Refusal.TheVariants.{BidUnknown}
use Rattle.lin_spec.proofs.Base.{or_none}
use Rattle.lin_spec.proofs.Checks.{unmet}
use Rattle.bridge_auction.specs.Auction.{auction}
use Rattle.bridge_auction.specs.declared.calls.Contract.{Contract}
use Rattle.bridge_auction.specs.declared.calls.Auction.{Auction}
use Rattle.bridge_auction.specs.declared.calls.Auction.TheVariants.{Ended}
use Rattle.auction.specs.Bids.{unknown_from, calls_of}
use Rattle.auction.specs.Check.{bids_of, check_auction}
use Rattle.auction.specs.Judging.{judged}
use Rattle.auction.specs.CheckMeaning.{FirstUnknown, AllForms, LendableCalls}
use Rattle.auction.proofs.ReadingLaws.{read_level, unknown-first, first-unknown, all_known, known-all}

-- where none of 1, 8, 5 and 6 meets the calls, the bids alone decide
pub lendable-judged : (other : Bool) (s : List ℕ) (d : Seat) (cs : List Call) → LendableCalls other s cs → check_auction other s d cs ≡ judged d (bids_of s cs)
unfolding check_auction judged unless
lendable-judged other s d cs l =
    let o = l.others in
    let g = l.flags in
    let w = l.within in
    let t = l.texts in
    let h = le-ltb limit (length s) l.short in
    simp (h, o, g, w, t)

-- 9 is met by the least index of a bid that is none of the forms, whatever the laws say of the calls before it
pub nine_least : (d : Seat) (bs : List (List ℕ)) (j : ℕ) → FirstUnknown 0 bs j → judged d bs ≡ Err (BidUnknown j)
unfolding judged unless
nine_least d bs j f = let e = first-unknown 0 bs j f in rw e

pub nine_means : (d : Seat) (bs : List (List ℕ)) (j : ℕ) → judged d bs ≡ Err (BidUnknown j) → FirstUnknown 0 bs j
unfolding judged unless
nine_means d bs j e = go (unknown_from 0 bs) refl
  where
    go : (o : Option ℕ) → unknown_from 0 bs ≡ o → FirstUnknown 0 bs j
    go None k = let z : Ok (auction d (calls_of bs)) ≡ Err (BidUnknown j) = rw k at e in absurd (let y : ◌≡◌ {A = ℕ} 0 1 = cc in omega arith)
    go (Some i) k = let z : ◌≡◌ {A = Answer Auction} (Err (BidUnknown i)) (Err (BidUnknown j)) = rw k at e in let y : i ≡ j = cc in unknown-first 0 bs j (k ∙ ap Some y)

-- the calls are judged only where every bid is of one of the forms
pub forms-judged : (d : Seat) (bs : List (List ℕ)) → AllForms bs → judged d bs ≡ Ok (auction d (calls_of bs))
unfolding judged unless
forms-judged d bs a = let e = known-all 0 bs a in rw e

pub judged-forms : (d : Seat) (bs : List (List ℕ)) (a : Auction) → judged d bs ≡ Ok a → AllForms bs × (a ≡ auction d (calls_of bs))
unfolding judged unless
judged-forms d bs a e = go (unknown_from 0 bs) refl
  where
    go : (o : Option ℕ) → unknown_from 0 bs ≡ o → AllForms bs × (a ≡ auction d (calls_of bs))
    go None k = let z : Ok (auction d (calls_of bs)) ≡ Ok a = rw k at e in (all_known 0 bs k, let y : auction d (calls_of bs) ≡ a = cc in sym y)
    go (Some i) k = let z : ◌≡◌ {A = Answer Auction} (Err (BidUnknown i)) (Ok a) = rw k at e in absurd (let y : ◌≡◌ {A = ℕ} 0 1 = cc in omega arith)

-- an answer that is no refusal was given of calls that none of 1, 8, 5, 6 and 9 meets
pub check_answered : (other : Bool) (s : List ℕ) (d : Seat) (cs : List Call) (a : Auction) → check_auction other s d cs ≡ Ok a
    → LendableCalls other s cs × (AllForms (bids_of s cs) × (a ≡ auction d (calls_of (bids_of s cs))))
unfolding check_auction
check_answered other s d cs a e =
    let p = unmet _ _ _ _ _ e in
    let q = unmet _ _ _ _ _ p.1 in
    let r = unmet _ _ _ _ _ q.1 in
    let u = unmet _ _ _ _ _ r.1 in
    let n = or_none other _ q.0 in
    let l : LendableCalls other s cs = record { short = ltb-false limit (length s) p.0; others = n.0; flags = n.1; within = r.0; texts = u.0 } in
    (l, judged-forms d (bids_of s cs) a (sym (lendable-judged other s d cs l) ∙ e))

-- so a contract that is answered has a level 1 to 7
pub check_level : (other : Bool) (s : List ℕ) (d : Seat) (cs : List Call) (c : Contract) → check_auction other s d cs ≡ Ok (Ended c) → (1 ≤ c.level) × (c.level ≤ 7)
check_level other s d cs c e = read_level d (bids_of s cs) c (sym (check_answered other s d cs (Ended c) e).1.1)
