-- The third demand, as one claim about a list of append calls on one output. (01: Writer, "For the third demand ..")
use Rattle.std.specs.Prelude.{ℕ, ◌*◌, ◌/◌, ◌≤◌, ◌<◌, ◌≡◌, false, List, map, length, take, get_or, Ok}
use Rattle.lin_spec.specs.Base.{All, count_if}
use Rattle.lin_spec.specs.Output.{room}
use Rattle.lin_spec.specs.Board.{BoardOf, Present}
use Rattle.lin_spec.specs.Reading.{Reading}
use Rattle.lin_spec.specs.File.{count_boards, file_board}
use Rattle.lin_spec.specs.Lent.{Lent, lent, meaning, Lendable}
use Rattle.lin_spec.specs.declared.Heading.{Heading}
use Rattle.lin_spec.specs.Log.{Asked, appending, State, Event, events, final, used_bytes, Log, empty_log, log_of, verdicts}

-- what the types of append's parameters say of a board: four names, 208 counts, a claim of one byte
pub record Typed (x : Lent) : Type 0 where
  pub names : length x.board.names ≡ 4
  pub counts : length x.board.deal.counts ≡ 208
  pub claim : Present (λ (n : ℕ). n ≤ 255) x.board.claim

-- a refused call leaves the output and the used count as they were: "T and L then stay"
abbrev pub Stays : Event → Type 0
Stays e = e.accepted ≡ false → e.next ≡ e.before

-- what a reader gave over the bytes t, lent again with as many rows and cards as it says
abbrev pub again : (t : List ℕ) → Heading → (rows cards : List ℕ) → Lent
again t h rows cards = lent t h.board (take (h.calls * 6) rows) (take h.cards cards)

-- a reader's answer over the bytes t is no refusal and gives the board b, "Fields compare by bytes, hands by counts": lent again it means b, and none of 8, 5
-- and 6 meets it
pub record Gives (t : List ℕ) (b : BoardOf (List ℕ)) (r : Reading) : Type 0 where
  pub heading : Heading
  pub given : r.heading ≡ Ok heading
  pub calls : heading.calls ≡ length b.calls
  pub cards : heading.cards ≡ length b.play
  pub board : meaning (again t heading r.rows r.cards) ≡ b
  pub lendable : Lendable (again t heading r.rows r.cards)

-- an output that holds o at first, with used count 0
abbrev pub start : (o : List ℕ) → State
start o = record { output = o; used = 0 }

-- the used bytes after the program did `es` on it
abbrev pub used : (o : List ℕ) → List Event → List ℕ
used o es = used_bytes (final (start o) es)

-- The calls `cs`, which the plain book is fed. `T` and `L` are the book's.
module _ (o : List ℕ) (cs : List Asked) where
  abbrev pub log : Log
  log = log_of (room o) empty_log cs

  abbrev pub T : List ℕ
  T = log.bytes

  abbrev pub L : List (BoardOf (List ℕ))
  L = log.boards

  pub record Kept (es : List Event) : Type 0 where
    -- a refused call changes nothing
    pub stays : All Stays es
    -- "A call is refused when a numbered refusal meets it": the accepted are those that none meets
    pub decided : map (λ e. e.accepted) es ≡ verdicts (room o) empty_log cs
    -- the used bytes "equal T"
    pub bytes : used o es ≡ T
    -- "and the file reader finds L in them": as many boards as calls were accepted
    pub many : length L ≡ count_if (λ e. e.accepted) es
    pub counted : count_boards (used o es) ≡ Ok (length L)
    -- and each by its number. "Enough rows means as many as the board has calls, and as many places for cards as its play has."
    pub found : (n : ℕ) → n < length L → (d : BoardOf (List ℕ)) (rows cards : List ℕ)
        → length (get_or L n d).calls ≤ length rows / 6 → length (get_or L n d).play ≤ length cards
        → Gives (used o es) (get_or L n d) (file_board (used o es) n rows cards)

-- the calls of `append`
abbrev pub ThirdDemand : (o : List ℕ) (xs : List Lent) → Type 0
ThirdDemand o xs = Kept o (map appending xs) (events (start o) (map appending xs))
