-- The loop that follows a list of calls, however they are read: begun, stopped by an unlawful call, one call more, finished.
-- (02: N1, "Starting from the dealer") Assumes nothing.
use Prim.Native.Nat.{ℕ, ◌+◌}
use native.Mathlib.Omega.{arith}
use mathlib.Core.Path.{◌≡◌, refl, ap, sym, ◌∙◌}
use mathlib.Core.Bool.{Bool, true, false}
use mathlib.Core.List.{List, [], ◌∷◌}
use Rattle.lin_spec.specs.declared.Seat.{Seat}
use Rattle.bridge_auction.specs.Auction.{lawful, outcome, auction_after, auction}
use Rattle.bridge_auction.specs.State.{Ties, Followed}
use Rattle.bridge_auction.specs.declared.calls.AuctionCall.{AuctionCall}
use Rattle.bridge_auction.specs.declared.calls.Auction.{Auction}
use Rattle.bridge_auction.specs.declared.calls.Auction.TheVariants.{Unlawful}
use Rattle.bridge_auction.specs.declared.state.AuctionState.{AuctionState}
use Rattle.bridge_auction.proofs.AuctionLaws.{auction-on, auction-stop}

-- before the dealer's call
pub begun : (d : Seat) (calls : List AuctionCall) (m : AuctionState) → Ties m [] → Followed d calls calls m 0
unfolding auction
begun d calls m t = record { history = []; ties = t; long = refl; rest-is = refl }

module _ {d : Seat} {calls rest : List AuctionCall} {m : AuctionState} {n : ℕ} (f : Followed d calls rest m n) where
  -- at a call c, of which the state says b
  module _ (c : AuctionCall) (rest' : List AuctionCall) (is : rest ≡ c ∷ rest') (b : Bool) (says : (h : List AuctionCall) → Ties m h → b ≡ lawful h c) where
    here : auction_after d f.history (c ∷ rest') ≡ auction d calls
    here = ap (auction_after d f.history) (sym is) ∙ f.rest-is

    -- "the index of the first unlawful call"
    pub stopped : b ≡ false → Unlawful n ≡ auction d calls
    stopped e = ap Unlawful (sym f.long) ∙ sym (auction-stop d f.history c rest' (sym (says f.history f.ties) ∙ e)) ∙ here

    -- one call more
    pub stepped : (m' : AuctionState) → b ≡ true → ((h : List AuctionCall) → Ties m h → lawful h c ≡ true → Ties m' (c ∷ h)) → Followed d calls rest' m' (n + 1)
    stepped m' e next =
        let l : lawful f.history c ≡ true = sym (says f.history f.ties) ∙ e in
        record { history = c ∷ f.history; ties = next f.history f.ties l; long = omega (arith, f.long); rest-is = sym (auction-on d f.history c rest' l) ∙ here }

  -- after the last call: "lawful and ended, lawful and open"
  pub finished : rest ≡ [] → (r : Auction) → ((h : List AuctionCall) → Ties m h → r ≡ outcome d h) → r ≡ auction d calls
  unfolding auction_after
  finished e r says = says f.history f.ties ∙ ap (auction_after d f.history) (sym e) ∙ f.rest-is
