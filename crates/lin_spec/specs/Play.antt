-- The play as a text, by tricks. (01: play text, `format_cardplay_by_trick`)
use Rattle.std.specs.Prelude.{ℕ, List, [], ◌∷◌, map, length}
use Rattle.lin_spec.specs.Base.{join_by, ascii}
use Rattle.lin_spec.specs.Refusals.{refuse_if, too_small}
use Rattle.lin_spec.specs.Output.{Outcome, room, fill}
use Rattle.lin_spec.specs.Writer.{card_letters, tricks}
use Rattle.lin_spec.specs.Lent.{bad_cards}
use Rattle.lin_spec.specs.declared.Refusal.TheVariants.{OutOfRange}

-- the cards of a trick with a space between, and the tricks with a pipe between: `D2 DA D6 D5|S3 S2 SQ SA`
abbrev pub trick_words : List ℕ → List ℕ
trick_words t = join_by (ascii " ") (map card_letters t)

unfoldable pub play_text : List ℕ → List ℕ
play_text cs = join_by (ascii "|") (map trick_words (tricks cs))

-- "All other calls, equality and play text included: 1, 8, 5, 6, 3, 7": of these, cards and an output can meet 8 and 7
unfoldable pub format_cardplay : (cards o : List ℕ) → Outcome
format_cardplay cs o = let s = play_text cs in fill (refuse_if (bad_cards cs) OutOfRange ∷ too_small (room o) (length s) ∷ []) o s
