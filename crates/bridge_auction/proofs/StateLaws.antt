-- The state after each call is what the longer history makes it, and its answers are those of the history.
-- (02: N1, "Starting from the dealer") Assumes nothing.
use Prim.Native.Nat.{ℕ, suc, ◌+◌, ◌*◌, ◌-◌, ◌%◌, ◌<◌, ◌≤◌}
use native.Mathlib.Omega.{arith}
use mathlib.Core.Path.{◌≡◌, refl, ap, sym, ◌∙◌}
use mathlib.Core.Bool.{Bool, true, false, ◌&&◌}
use mathlib.Core.List.{List, [], ◌∷◌}
use lib.Dec.{eqb, ltb, leb}
use lib.ListN.{length, get_or}
use borrow.Author.Tests.{lt-ltb}
use Rattle.lin_spec.specs.Base.{pick}
use Rattle.lin_spec.specs.Letters.{seat_number, seat_at}
use Rattle.lin_spec.specs.declared.Seat.{Seat}
use Rattle.lin_spec.proofs.Base.{all_below, same_below}
use Rattle.bridge_auction.specs.Auction.{strain_number, is_bid, is_double, doubling_of, level_of, strain_of, rank, last_bid, latest, passes, opponents, opened, ended, follows, lawful, last_bid_at, has_named, first_named, declaring, caller, declarer, contract, outcome}
use Rattle.bridge_auction.specs.State.{slot, name_of, state_with_pass, state_with_double, state_with_bid, Ties}
use Rattle.bridge_auction.specs.declared.calls.Strain.{Strain}
use Rattle.bridge_auction.specs.declared.calls.AuctionCall.{AuctionCall}
use Rattle.bridge_auction.specs.declared.calls.Doubling.{Doubling}
use Rattle.bridge_auction.specs.declared.calls.AuctionCall.TheVariants.{Pass, Double, Redouble, Bid}
use Rattle.bridge_auction.specs.declared.calls.Auction.TheVariants.{PassedOut, Ended, Open}
use Rattle.bridge_auction.specs.declared.state.AuctionState.{AuctionState}
use Rattle.bridge_auction.proofs.AuctionLaws.{no_more, going, lawful_open, few-passes}
use Rattle.bridge_auction.proofs.NameLaws.{slot_in, mark-long, mark_name, name_other, names-none, last-named}

-- "outrank": a bid's rank, as the code adds it up
pub rank-bid : (c : AuctionCall) (l a b : ℕ) (u : Strain) → c ≡ Bid l u → a ≡ l - 1 → b ≡ strain_number u → a * 5 + b + 1 ≡ rank c
unfolding rank
rank-bid c l a b u e i j = rw e (omega arith)

-- What the state's tests say of the history

-- "The auction ends at four opening passes, or three running passes once a bid is made."
abbrev pub over : AuctionState → Bool
over m = pick (is_bid m.last) (leb 3 m.passes) (leb 4 m.passes)

pub over-ended : (m : AuctionState) (h : List AuctionCall) → Ties m h → over m ≡ ended h
unfolding ended opened
over-ended m h t = rw (t.bid, t.quiet)

module _ (m : AuctionState) (h : List AuctionCall) (t : Ties m h) where
  -- Whether a call is lawful, by the tests that the code makes: o and b are their outcomes

  pub says-over : (c : AuctionCall) (o : Bool) → o ≡ over m → o ≡ true → false ≡ lawful h c
  says-over c o i e = sym (no_more h c (sym (over-ended m h t) ∙ sym i ∙ e))

  allowed : (c : AuctionCall) (o : Bool) → o ≡ over m → o ≡ false → lawful h c ≡ follows h c
  allowed c o i e = going h c (sym (over-ended m h t) ∙ sym i ∙ e)

  pub says_pass : (c : AuctionCall) (o : Bool) → o ≡ over m → o ≡ false → c ≡ Pass → true ≡ lawful h c
  unfolding follows
  says_pass c o i e k = rw k (sym (allowed Pass o i e))

  pub says_double : (c : AuctionCall) (o b : Bool) → o ≡ over m → o ≡ false → c ≡ Double → b ≡ (is_bid m.latest && eqb (m.passes % 2) 0) → b ≡ lawful h c
  unfolding follows opponents
  says_double c o b i e k j = j ∙ rw (k, allowed Double o i e, t.call, t.quiet)

  pub says_redouble : (c : AuctionCall) (o b : Bool) → o ≡ over m → o ≡ false → c ≡ Redouble → b ≡ (is_double m.latest && eqb (m.passes % 2) 0) → b ≡ lawful h c
  unfolding follows opponents
  says_redouble c o b i e k j = j ∙ rw (k, allowed Redouble o i e, t.call, t.quiet)

  pub says-bid : (c : AuctionCall) (l : ℕ) (u : Strain) (o b : Bool) → o ≡ over m → o ≡ false → c ≡ Bid l u → b ≡ ltb (rank m.last) (rank c) → b ≡ lawful h c
  unfolding follows
  says-bid c l u o b i e k j = j ∙ rw (k, allowed (Bid l u) o i e, t.bid)

  -- What the calls so far are

  pub still_open : (d : Seat) (o : Bool) → o ≡ over m → o ≡ false → Open ≡ outcome d h
  unfolding outcome
  still_open d o i e = simp (sym (over-ended m h t) ∙ sym i ∙ e)

  pub passed_out : (d : Seat) (o b : Bool) → o ≡ over m → o ≡ true → b ≡ is_bid m.last → b ≡ false → PassedOut ≡ outcome d h
  unfolding outcome opened
  passed_out d o b i e j k =
      let n : is_bid (last_bid h) ≡ false = ap is_bid (sym t.bid) ∙ sym j ∙ k in
      simp (sym (over-ended m h t) ∙ sym i ∙ e, n)

  declarer_seat : (d : Seat) (n : ℕ) → is_bid m.last ≡ true → n ≡ get_or m.named (slot (m.side % 2) (strain_of m.last)) 0 - 1 → caller d n ≡ declarer d h
  unfolding name_of caller declarer declaring opened
  declarer_seat d n b k =
      let i : opened h ≡ true = ap is_bid (sym t.bid) ∙ b in
      let w : has_named (last_bid_at h % 2) (strain_of (last_bid h)) h ≡ true = last-named h i in
      let a : m.side % 2 ≡ last_bid_at h % 2 = omega (arith, t.side) in
      let v : name_of (last_bid_at h % 2) (strain_of (last_bid h)) h ≡ suc (first_named (last_bid_at h % 2) (strain_of (last_bid h)) h % 4) = simp w in
      let g : get_or m.named (slot (last_bid_at h % 2) (strain_of (last_bid h))) 0 ≡ suc (first_named (last_bid_at h % 2) (strain_of (last_bid h)) h % 4) = t.table _ _ (omega arith) ∙ v in
      let q : n ≡ get_or m.named (slot (last_bid_at h % 2) (strain_of (last_bid h))) 0 - 1 = rw (a, t.bid) at k in
      let r : (seat_number d + n) % 4 ≡ (seat_number d + first_named (last_bid_at h % 2) (strain_of (last_bid h)) h) % 4 = omega arith in
      ap seat_at r

  pub the_contract : (d x : Seat) (o b : Bool) (level place n : ℕ) (doubling : Doubling) (u : Strain) → o ≡ over m → o ≡ true → b ≡ is_bid m.last → b ≡ true → u ≡ strain_of m.last → place ≡ slot (m.side % 2) u → n ≡ get_or m.named place 0 - 1 → x ≡ caller d n → level ≡ level_of m.last → doubling ≡ doubling_of m.latest → Ended (record { level = level; strain = u; doubling = doubling; declarer = x }) ≡ outcome d h
  unfolding outcome contract opened
  the_contract d x o b level place n doubling u i e j k p q v w r s =
      let y : is_bid m.last ≡ true = sym j ∙ k in
      let z : n ≡ get_or m.named (slot (m.side % 2) (strain_of m.last)) 0 - 1 = v ∙ rw (q, p) in
      let g : x ≡ declarer d h = w ∙ declarer_seat d n y z in
      simp (sym (over-ended m h t) ∙ sym i ∙ e, sym t.bid, sym t.call, g, p, r, s, y)

  -- One call more

  next-turn : (seat : ℕ) → seat ≡ (m.seat % 4 + 1) % 4 → (c : AuctionCall) → seat ≡ length (c ∷ h) % 4
  next-turn seat e c = let k : m.seat ≡ length h % 4 = t.turn in omega arith

  same_names : (c : AuctionCall) → is_bid c ≡ false → (side : ℕ) (u : Strain) → side < 2 → get_or m.named (slot side u) 0 ≡ name_of side u (c ∷ h)
  same_names c b side u low = t.table side u low ∙ sym (name_other side u h c (names-none side u h c b))

  pub after_pass : (c : AuctionCall) (r : AuctionState) → c ≡ Pass → r ≡ state_with_pass m → lawful h c ≡ true → Ties r (c ∷ h)
  unfolding passes last_bid latest last_bid_at state_with_pass
  after_pass c r k e l =
      let p : passes h ≤ 3 = few-passes h (lawful_open h c l) in
      let q : m.passes ≡ passes h = t.quiet in
      let n : pick (ltb m.passes 255) (m.passes + 1) 255 ≡ m.passes + 1 = simp (lt-ltb m.passes 255 (omega arith)) in
      rw (e, k) (record { turn = next-turn _ refl Pass; quiet = omega arith; bid = t.bid; call = t.call; side = t.side; long = t.long; table = same_names Pass refl })

  pub after_double : (c : AuctionCall) (r : AuctionState) → c ≡ Double → r ≡ state_with_double m c → Ties r (c ∷ h)
  unfolding passes last_bid latest last_bid_at state_with_double
  after_double c r k e = rw (e, k) (record { turn = next-turn _ refl Double; quiet = refl; bid = t.bid; call = refl; side = t.side; long = t.long; table = same_names Double refl })

  pub after_redouble : (c : AuctionCall) (r : AuctionState) → c ≡ Redouble → r ≡ state_with_double m c → Ties r (c ∷ h)
  unfolding passes last_bid latest last_bid_at state_with_double
  after_redouble c r k e = rw (e, k) (record { turn = next-turn _ refl Redouble; quiet = refl; bid = t.bid; call = refl; side = t.side; long = t.long; table = same_names Redouble refl })

  pub after-bid : (c : AuctionCall) (r : AuctionState) (l : ℕ) (u : Strain) → c ≡ Bid l u → r ≡ state_with_bid m (Bid l u) u → Ties r (c ∷ h)
  unfolding passes last_bid latest last_bid_at state_with_bid
  after-bid c r l u k e =
      let a : m.seat ≡ length h % 4 = t.turn in
      let s : length h % 2 ≡ m.seat % 2 = omega arith in
      rw (e, k) (record { turn = next-turn _ refl (Bid l u); quiet = refl; bid = refl; call = refl; side = sym s; long = mark-long m.named _ m.seat ∙ t.long; table = mark_name m.named h l (m.seat % 2) m.seat u t.long a s t.table })

-- the state before the dealer's call: each of the ten places has 0
ten : List ℕ
ten = 0 ∷ 0 ∷ 0 ∷ 0 ∷ 0 ∷ 0 ∷ 0 ∷ 0 ∷ 0 ∷ 0 ∷ []

ten_zero : (i : ℕ) → i < 10 → get_or ten i 0 ≡ 0
unfolding ten all_below
ten_zero = same_below (λ (i : ℕ). get_or ten i 0) (λ (i : ℕ). 0) 10 refl

pub begins : Ties (record { seat = 0; passes = 0; last = Pass; latest = Pass; side = 0; named = 0 ∷ 0 ∷ 0 ∷ 0 ∷ 0 ∷ 0 ∷ 0 ∷ 0 ∷ 0 ∷ 0 ∷ [] }) []
unfolding passes last_bid latest last_bid_at name_of has_named ten
begins = record { turn = refl; quiet = refl; bid = refl; call = refl; side = refl; long = refl; table = λ side u low. ten_zero (slot side u) (slot_in side u low) }
