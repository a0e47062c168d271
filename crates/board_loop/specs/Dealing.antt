-- The dealer and the deal as the code holds them, from the value of the last md that is accepted. (01: Board, md)
use Rattle.std.specs.Prelude.{List, ℕ, Option, None, Some}
use Rattle.lin_spec.specs.Records.{bytes_at}
use Rattle.lin_spec.specs.White.{trim}
use Rattle.lin_spec.specs.Board.{Dealt as DealtBy, undealt, read_md}
use Rattle.lin_spec.specs.declared.Span.{Span}
use Rattle.lin_spec.specs.declared.Seat.{Seat}

abbrev pub held : Seat → (counts : List ℕ) → DealtBy
held x d = record { dealer = x; deal = d }

abbrev pub dealt_from : (s : List ℕ) → Option Span → DealtBy
dealt_from s None = undealt
dealt_from s (Some v) = read_md (trim (bytes_at s v)) undealt
