-- A call as its row gives it, as the pieces that are put, and the calls of all rows. (01: Writer, mb and an)
use Rattle.std.specs.Prelude.{ℕ, not, List, [], ◌∷◌, map, eqb}
use Rattle.lin_spec.specs.Base.{pick, ascii}
use Rattle.lin_spec.specs.Records.{bytes_at}
use Rattle.lin_spec.specs.Board.{map_option, map_call}
use Rattle.lin_spec.specs.Writer.{clean, optional, call_text, calls_text}
use Rattle.lin_spec.specs.Lent.{call_rows, call_in}
use Rattle.lin_spec.specs.declared.Call.{Call}

-- "alerted or not"
abbrev pub alert_text : (alerted : ℕ) → List ℕ
alert_text t = pick (not (eqb t 0)) (ascii "!") []

-- "annotation span or absent"
abbrev pub an_text : (p q : ℕ) (text : List ℕ) → Call → List ℕ
an_text p q s c = optional (ascii "an|") (map_option (clean p q) (map_option (bytes_at s) (call_in c).annotation))

abbrev pub call_pieces : (p q : ℕ) (text : List ℕ) → Call → List (List ℕ)
call_pieces p q s c = ascii "mb|" ∷ clean p q (bytes_at s c.bid) ∷ alert_text c.alerted ∷ ascii "|" ∷ an_text p q s c ∷ []

unfoldable pub call_bytes : (p q : ℕ) (text : List ℕ) → Call → List ℕ
call_bytes p q s c = call_text p q (map_call (bytes_at s) (call_in c))

unfoldable pub calls_bytes : (p q : ℕ) (text words : List ℕ) → List ℕ
calls_bytes p q s ws = calls_text p q (map (map_call (bytes_at s)) (map call_in (call_rows ws)))
