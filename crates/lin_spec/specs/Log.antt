-- A list of append calls on one output, and the plain book that is kept of it. (01: Writer, "For the third demand the list of appends is kept by a plain
-- book ..")
use Rattle.std.specs.Prelude.{ℕ, ◌+◌, Bool, true, false, ◌||◌, not, List, [], ◌∷◌, ◌++◌, length, take, ltb, Err, Ok}
use Rattle.lin_spec.specs.Base.{pick, any}
use Rattle.lin_spec.specs.Records.{limit}
use Rattle.lin_spec.specs.Refusals.{Answer, passes_end, ill_span}
use Rattle.lin_spec.specs.Board.{BoardOf}
use Rattle.lin_spec.specs.Lent.{Lent, lent_spans, bad_number}
use Rattle.lin_spec.specs.Append.{Filing, plain, written_form, settled_form, appended}

-- A call of the list: the board that it is to write, and whether another number of the call is outside its range, as in `appended`
pub record Asked : Type 0 where
  pub other : Bool
  pub filing : Filing

-- a call of `append`, which has no other number
abbrev pub appending : Lent → Asked
appending x = record { other = false; filing = plain x }

-- The program's side

-- the output, and "the used count last returned (0 if none was)"
pub record State : Type 0 where
  pub output : List ℕ
  pub used : ℕ

-- a call that gets the output and the used count as the call before left them, whether it is accepted, and what it leaves
pub record Event : Type 0 where
  pub before : State
  pub accepted : Bool
  pub next : State

-- append's own definition, call after call

abbrev pub accepts : {A : Type 0} → Answer A → Bool
accepts (Err r) = false
accepts (Ok a) = true

abbrev pub used_after : Answer ℕ → (used : ℕ) → ℕ
used_after (Err r) used = used
used_after (Ok n) used = n

unfoldable pub event : State → Asked → Event
event st a =
    let r = appended a.other a.filing st.output st.used in
    record { before = st; accepted = accepts r.answer; next = record { output = r.output; used = used_after r.answer st.used } }

-- calls one after the other, each by its own step
unfoldable pub walk : {A : Type 0} → (step : State → A → Event) → State → List A → List Event
walk f st [] = []
walk f st (a ∷ cs) = let e = f st a in e ∷ walk f e.next cs

abbrev pub events : State → List Asked → List Event
events st cs = walk event st cs

-- what the last call leaves
unfoldable pub final : State → List Event → State
final st [] = st
final st (e ∷ es) = final e.next es

-- "The used bytes are the output's first bytes, as many as the used count last returned"
abbrev pub used_bytes : State → List ℕ
used_bytes st = take st.used st.output

-- The plain book, a model of the list

-- 01's term plain book: "It holds a byte string T and a list L of boards"
pub record Log : Type 0 where
  pub bytes : List ℕ
  pub boards : List (BoardOf (List ℕ))

-- "both empty at first, whatever bytes the output holds then"
abbrev pub empty_log : Log
empty_log = record { bytes = []; boards = [] }

-- "A call is refused when a numbered refusal meets it": 1, 8, 5 and 6 by the call's inputs; "7 does, after the others, exactly when T and the board's
-- written form (its bytes as above) together pass the room"
unfoldable pub meets : (room : ℕ) → Log → Asked → Bool
meets room k a =
    let x = a.filing.lent in
    ltb limit (length x.text)
    || ((a.other || bad_number x)
    || (any (passes_end x.text) (lent_spans x) || (any (ill_span x.text) (lent_spans x) || ltb room (length k.bytes + length (written_form a.filing)))))

-- "T and L then stay. Any other call is accepted: its written form goes to the end of T, its settled form to the end of L."
unfoldable pub entered : (room : ℕ) → Log → Asked → Log
entered room k a = pick (meets room k a) k (record { bytes = k.bytes ++ written_form a.filing; boards = k.boards ++ (settled_form a.filing ∷ []) })

unfoldable pub log_of : (room : ℕ) → Log → List Asked → Log
log_of room k [] = k
log_of room k (a ∷ cs) = log_of room (entered room k a) cs

-- which calls are accepted
unfoldable pub verdicts : (room : ℕ) → Log → List Asked → List Bool
verdicts room k [] = []
verdicts room k (a ∷ cs) = not (meets room k a) ∷ verdicts room (entered room k a) cs
