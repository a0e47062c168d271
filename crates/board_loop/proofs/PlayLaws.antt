-- Laws of cards one at a time. (01: Board, pc)
-- Assumes nothing.
use Rattle.std.specs.Prelude.{Option, None}
use Prim.Native.Nat.{ℕ}
use native.Mathlib.Omega.{arith}
use mathlib.Core.Path.{◌≡◌}
use mathlib.Core.List.{List, []}
use lib.Dec.{eqb}
use borrow.Author.Tests.{eq-eqb}
use Rattle.lin_spec.specs.Base.{pick, ascii}
use Rattle.lin_spec.specs.Records.{bytes_at}
use Rattle.lin_spec.specs.White.{trim, is_command}
use Rattle.lin_spec.specs.Cards.{read_card}
use Rattle.lin_spec.specs.Reading.{stream}
use Rattle.lin_spec.specs.declared.Span.{Span}
use Rattle.document_commands.specs.Steps.{TokenAt}
use Rattle.board_loop.specs.Play.{before, cards_from}
use Rattle.document_commands.proofs.StepLaws.{command-is}

pub no_card : (s : List ℕ) (at : ℕ) → stream s at ≡ [] → cards_from s (stream s at) ≡ []
unfolding cards_from
no_card s at e = simp e

-- a token's card, o, goes before those of the rest
pub card-here : (s : List ℕ) (at k : ℕ) (v : Span) (n : ℕ) → TokenAt s at k v n → (o : Option ℕ) → o ≡ pick (eqb k 0) (read_card (trim (bytes_at s v))) None
    → cards_from s (stream s at) ≡ before o (cards_from s (stream s n))
unfolding cards_from
card-here s at k v n t o e =
    let q : is_command t.command (ascii "pc") ≡ eqb k 0 = command-is s at k v n t 0 (omega arith) in
    rw e (simp (t.front, q))

-- whether the token is a pc
pub card-on : (k : ℕ) → k ≡ 0 → (o x : Option ℕ) → o ≡ x → o ≡ pick (eqb k 0) x None
card-on k h o x e = rw (eq-eqb k 0 h) e
