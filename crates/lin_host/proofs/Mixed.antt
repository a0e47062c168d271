-- The third demand for a list of calls of the entries `append` and `append_rows` and of the export `lin_append`, mixed, on one output; and what the types of
-- the export's parameters say. (01: Writer, "For the third demand ..")
-- Assumes nothing.
use Rattle.std.specs.Prelude.{Err, Ok, Option}
use Prim.Native.Nat.{ℕ, zero, suc, ◌*◌, ◌≤◌}
use native.Mathlib.Omega.{arith}
use mathlib.Core.Path.{◌≡◌, refl, ap}
use mathlib.Core.Bool.{Bool, false}
use mathlib.Core.List.{List, [], ◌∷◌}
use lib.ListN.{length}
use lib.Dec.{eqb, ltb}
use borrow.Author.Tests.{ltb-false}
use Rattle.lin_spec.specs.Base.{pick, All}
use Rattle.lin_spec.specs.Refusals.{Answer, number_of}
use Rattle.lin_spec.specs.Board.{Present}
use Rattle.lin_spec.specs.Append.{plain, appended}
use Rattle.lin_spec.specs.Log.{accepts, used_after, State, event}
use Rattle.lin_spec.specs.ThirdDemand.{Typed}
use Rattle.lin_spec.specs.declared.Refusal.{Refusal}
use Rattle.lin_spec.specs.declared.Refusal.TheVariants.{TextTooLong, NotUtf8, TooFewRows, NoBoard, SpanPastEnd, SpanNotUtf8, OutputTooSmall, OutOfRange, BidUnknown}
use Rattle.lin_spec.proofs.Base.{picked, all_map}
use Rattle.lin_spec.proofs.ThirdDemand.{Allowed, plain-fit, kept-walk}
use Rattle.lin_host_numbers.specs.Answers.{numbers_of}
use Rattle.lin_host_numbers.specs.Codes.{word_spans, coded_claim, coded_board, bad_codes}
use Rattle.lin_host_numbers.specs.declared.boards.LinBoard.{LinBoard}
use Rattle.lin_host.specs.Writing.{lent_numbers}
use Rattle.lin_host.specs.Mixed.{Appending, called_by, fed, TypedNumbers, TypedCall, ThirdDemandMixed}
use Rattle.lin_host.specs.Mixed.Appending.{entry, export}

-- A call by its own definition is the call that the third demand speaks of

-- no refusal has the number 0
refusal_told : (r : Refusal) → eqb (number_of r) 0 ≡ false
refusal_told TextTooLong = refl
refusal_told (NotUtf8 n) = refl
refusal_told (TooFewRows k n) = refl
refusal_told (NoBoard n) = refl
refusal_told SpanPastEnd = refl
refusal_told SpanNotUtf8 = refl
refusal_told (OutputTooSmall n) = refl
refusal_told OutOfRange = refl
refusal_told (BidUnknown n) = refl

accepts_told : (a : Answer ℕ) → eqb (numbers_of a).refusal 0 ≡ accepts a
accepts_told (Err r) = refusal_told r
accepts_told (Ok n) = refl

used_told : (a : Answer ℕ) (used : ℕ) → pick (eqb (numbers_of a).refusal 0) (numbers_of a).value used ≡ used_after a used
used_told (Err r) used = ap (λ (t : Bool). pick t (numbers_of (Err r)).value used) (refusal_told r)
used_told (Ok n) used = refl

same-call : (st : State) (c : Appending) → called_by st c ≡ event st (fed c)
unfolding event
same-call st (entry x) = refl
same-call st (export s b ws cs) =
    let r = appended (bad_codes b) (plain (lent_numbers s b ws cs)) st.output st.used in
    let t = accepts_told r.answer in
    let u = used_told r.answer st.used in
    λ i. record { before = st; accepted = t i; next = record { output = r.output; used = u i } }

-- A board of numbers has what append's types say

spans-length : (n : ℕ) (ws : List ℕ) → length ws ≡ n * 2 → length (word_spans ws) ≡ n
unfolding word_spans
spans-length zero [] h = refl
spans-length (suc n) [] h = absurd (let z : ⊥ = omega arith in z)
spans-length zero (a ∷ ws) h = absurd (let z : ⊥ = omega arith in z)
spans-length (suc n) (a ∷ []) h = absurd (let z : ⊥ = omega arith in z)
spans-length (suc n) (a ∷ b ∷ ws) h = ap suc (spans-length n ws (omega arith))

claim_told : (t n : ℕ) → Present (λ (k : ℕ). k ≤ 255) (coded_claim t n)
claim_told t n =
    picked P (eqb t 0) (λ _. tt) (λ _. picked P (ltb 255 n) (λ _. tt) (λ e. ltb-false 255 n e))
  where
    P : Option ℕ → Type 0
    P c = Present (λ (k : ℕ). k ≤ 255) c

numbers_typed : (s : List ℕ) (b : LinBoard) (ws cs : List ℕ) → TypedNumbers b → Typed (lent_numbers s b ws cs)
unfolding coded_board
numbers_typed s b ws cs h = record { names = spans-length 4 b.names h.names; counts = h.counts; claim = claim_told b.claimed b.claim }

call_allowed : (c : Appending) → TypedCall c → Allowed (fed c)
call_allowed (entry x) h = record { fit = plain-fit; typed = h }
call_allowed (export s b ws cs) h = record { fit = plain-fit; typed = numbers_typed s b ws cs h }

-- The theorem: the used bytes are T, the file reader finds L in them, a refused call changes nothing, and the accepted calls are those of the book
pub third_demand_mixed : (o : List ℕ) (cs : List Appending) → All TypedCall cs → ThirdDemandMixed o cs
third_demand_mixed o cs h = kept-walk called_by fed same-call o cs (all_map TypedCall Allowed fed call_allowed cs h)
