-- A list of append calls on one output, some by the entry `append`, its calls as words, some by `append_rows`, its calls as structs, and some by the export
-- `lin_append`. (01: Writer, "For the third demand ..", "this is one claim about the whole list"; "Entries on numbers and byte slices are exported")
use Rattle.std.specs.Prelude.{ℕ, ◌≡◌, Bool, List, map, length, eqb}
use Rattle.lin_spec.specs.Base.{pick}
use Rattle.lin_spec.specs.Lent.{Lent}
use Rattle.lin_spec.specs.Append.{plain, append}
use Rattle.lin_spec.specs.Log.{Asked, appending, accepts, used_after, State, Event, walk}
use Rattle.lin_spec.specs.ThirdDemand.{Typed, start, Kept}
use Rattle.lin_host_numbers.specs.Codes.{bad_codes}
use Rattle.lin_host.specs.Writing.{lent_numbers, append_numbers}
use Rattle.lin_host_numbers.specs.declared.boards.LinBoard.{LinBoard}

-- a call of either entry with the board that it is lent, which both promise the same of, or one of the export with the numbers that it is lent
pub data Appending : Type 0 where
  entry : Lent → Appending
  export : (text : List ℕ) (board : LinBoard) (words cards : List ℕ) → Appending

-- The program's side: each call by its own definition

-- an answer of numbers is accepted when its refusal is 0; its value is then the new used count
abbrev pub accepts_numbers : (refusal : ℕ) → Bool
accepts_numbers r = eqb r 0

abbrev pub called_by : State → Appending → Event
called_by st (entry x) =
    let r = append x st.output st.used in
    record { before = st; accepted = accepts r.answer; next = record { output = r.output; used = used_after r.answer st.used } }
called_by st (export s b ws cs) =
    let r = append_numbers s b ws cs st.output st.used in
    let t = accepts_numbers r.answer.refusal in
    record { before = st; accepted = t; next = record { output = r.output; used = pick t r.answer.value st.used } }

-- What the plain book is fed: the board of the numbers, and whether a code is outside its range
abbrev pub fed : Appending → Asked
fed (entry x) = appending x
fed (export s b ws cs) = record { other = bad_codes b; filing = plain (lent_numbers s b ws cs) }

-- what the types of the parameters say: of the entry's as before, of the export's eight words for the names and 208 counts
pub record TypedNumbers (b : LinBoard) : Type 0 where
  pub names : length b.names ≡ 8
  pub counts : length b.counts ≡ 208

abbrev pub TypedCall : Appending → Type 0
TypedCall (entry x) = Typed x
TypedCall (export s b ws cs) = TypedNumbers b

-- the third demand for such a list
abbrev pub ThirdDemandMixed : (o : List ℕ) (cs : List Appending) → Type 0
ThirdDemandMixed o cs = Kept o (map fed cs) (walk called_by (start o) cs)
