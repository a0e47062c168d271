-- The kept calls before cleaning, and the kept cards, one at a time. (01: From PBN)
use Rattle.std.specs.Prelude.{ℕ, ◌+◌, Bool, not, List, [], ◌∷◌, ◌++◌, eqb, ltb, get_or}
use Rattle.lin_spec.specs.Base.{pick, ascii}
use Rattle.lin_spec.specs.Decimal.{digit}
use Rattle.lin_spec.specs.Writer.{or_empty}
use Rattle.lin_spec.specs.Pbn.{gap, bid_of, raw_of, annotation_by}
use Rattle.lin_spec.specs.declared.PbnCall.{PbnCall}

-- an entry of the play, if it is kept
abbrev pub kept_letter : ℕ → List ℕ
kept_letter b = pick (not (eqb b gap)) (b ∷ []) []

-- "continue, blank .. are dropped"
abbrev pub is_kept : PbnCall → Bool
is_kept c = ltb c.kind 4

-- 1 for a call that is kept
abbrev pub kept_one : PbnCall → ℕ
kept_one c = pick (is_kept c) 1 0

-- how many calls are kept
unfoldable pub kept_many : List PbnCall → ℕ
kept_many [] = 0
kept_many (c ∷ cs) = kept_one c + kept_many cs

-- a bid of a level and a strain
abbrev pub level_text : (level strain : ℕ) → List ℕ
level_text l t = digit l ∷ get_or (ascii "CDHSN") t 0 ∷ []

-- the text of a bid, none where the call is dropped
abbrev pub bid_bytes : PbnCall → List ℕ
bid_bytes c = or_empty (bid_of c)

-- the text of an annotation
abbrev pub note_bytes : (s notes : List ℕ) → PbnCall → List ℕ
note_bytes s ns c = or_empty (annotation_by s ns (raw_of c))

-- both, for a call that is kept
unfoldable pub pbn_call_bytes : (s notes : List ℕ) → PbnCall → List ℕ
pbn_call_bytes s ns c = pick (is_kept c) (bid_bytes c ++ note_bytes s ns c) []

-- those of the calls, one after the other
unfoldable pub pbn_calls_bytes : (s notes : List ℕ) → List PbnCall → List ℕ
pbn_calls_bytes s ns [] = []
pbn_calls_bytes s ns (c ∷ cs) = pbn_call_bytes s ns c ++ pbn_calls_bytes s ns cs
