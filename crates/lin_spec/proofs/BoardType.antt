-- What the types of a board and of a PBN record say of their values: four names, 208 counts, a claim of one byte. (01: Records; From PBN)
-- Assumes nothing.
use Rattle.std.specs.Prelude.{Option, None, Some}
use Prim.Native.Nat.{ℕ, suc, ◌≤◌}
use native.Mathlib.Omega.{arith}
use mathlib.Core.Path.{◌≡◌, sym, ◌∙◌}
use mathlib.Core.List.{List, map}
use lib.ListN.{length, length-map}
use mir.Val.{Val}
use denote.Laws.{Is}
use denote.Struct.Declared.{row}
use Rattle.lin_spec.specs.Board.{Present}
use Rattle.lin_spec.specs.Lent.{lent}
use Rattle.lin_spec.specs.ThirdDemand.{Typed}
use Rattle.lin_spec.specs.Pbn.{Pbn}
use Rattle.lin_spec.specs.declared.Board.{Board}
use Rattle.lin_spec.specs.contracts.Board as board
use Rattle.std.specs.contracts.option.Option as option
use denote.Builtin.{u8}
use Rattle.lin_spec.specs.contracts.PbnBoard as pbn
use Rattle.lin_spec.proofs.Pbn.{PbnTyped}

unmapped : {A B : Type 0} (f : A → B) (l : List A) (n : ℕ) → length (map f l) ≡ n → length l ≡ n
unmapped f l n h = sym (length-map l f) ∙ h

names-four : (b : Board) (vs : List Val) → Is (row board.the_type) b vs → length b.names ≡ 4
names-four b vs h = h.1.1.0.1.0.1

counts-long : (b : Board) (vs : List Val) → Is (row board.the_type) b vs → length b.deal.counts ≡ 208
counts-long b vs h = h.1.1.1.1.0.1.1.0.1.0.1

claim_fits : (c : Option ℕ) (vs : List Val) → Is (option.the_field u8).row ((option.the_field u8).into c) vs → Present (λ n. n ≤ 255) c
claim_fits None vs h = tt
claim_fits (Some n) vs h = let l : suc n ≤ 256 = h.1.1.1.1.0.1 in omega arith

claim_byte : (b : Board) (vs : List Val) → Is (row board.the_type) b vs → Present (λ n. n ≤ 255) b.claim
claim_byte b vs h = claim_fits b.claim _ h.1.1.1.1.1.1.1.1.1.0

-- so a board that is lent is of append's types
pub board_typed : (b : Board) (vs : List Val) → Is (row board.the_type) b vs → (s ws cs : List ℕ) → Typed (lent s b ws cs)
board_typed b vs h s ws cs = record { names = names-four b vs h; counts = counts-long b vs h; claim = claim_byte b vs h }

pub record_typed : (x : Pbn) (vs : List Val) → Is (row pbn.the_type) x.board vs → PbnTyped x
record_typed x vs h = record { counts = h.1.1.1.1.1.1.1.1.1.1.1.0.1.1.0.1.0.1 }
