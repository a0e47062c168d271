-- `board_loop::dealer_of` meets its contract.
use Rattle.lin_spec.specs.Board.{dealer_of}
use borrow.Author.Tests.{eq-eqb, ne_eqb}
use Rattle.board_loop.proofs.dealing.dealer_of.Goals as goal

pub returns-then-b-eq49 : goal.returns-then-b-eq49
returns-then-b-eq49 c = unfold dealer_of in simp (eq-eqb _ _ c.if-b-eq49.true)

pub returns-then-b-eq50 : goal.returns-then-b-eq50
returns-then-b-eq50 c = unfold dealer_of in simp (ne_eqb _ _ c.if-b-eq49.false, eq-eqb _ _ c.if-b-eq50.true)

pub returns-then-b-eq51 : goal.returns-then-b-eq51
returns-then-b-eq51 c = unfold dealer_of in simp (ne_eqb _ _ c.if-b-eq49.false, ne_eqb _ _ c.if-b-eq50.false, eq-eqb _ _ c.if-b-eq51.true)

pub returns-then-b-eq52 : goal.returns-then-b-eq52
returns-then-b-eq52 c = unfold dealer_of in simp (ne_eqb _ _ c.if-b-eq49.false, ne_eqb _ _ c.if-b-eq50.false, ne_eqb _ _ c.if-b-eq51.false, eq-eqb _ _ c.if-b-eq52.true)

pub returns : goal.returns
returns c = unfold dealer_of in simp (ne_eqb _ _ c.if-b-eq49.false, ne_eqb _ _ c.if-b-eq50.false, ne_eqb _ _ c.if-b-eq51.false, ne_eqb _ _ c.if-b-eq52.false)
