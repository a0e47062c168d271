-- `auction::bids::strain_by` meets its contract: by the tests that led there.
use borrow.Author.Tests.{eq-eqb, ne_eqb}
use Rattle.lin_spec.specs.Base.{eq_all}
use Rattle.auction.specs.Bids.{strain_by}
use Rattle.auction.proofs.bids.strain_by.Goals as goal

pub returns-then-b-eq99 : goal.returns-then-b-eq99
unfolding strain_by eq_all
returns-then-b-eq99 c = simp (eq-eqb _ _ c.if-b-eq99.true)

pub returns-then-b-eq100 : goal.returns-then-b-eq100
unfolding strain_by eq_all
returns-then-b-eq100 c = simp (ne_eqb _ _ c.if-b-eq99.false, eq-eqb _ _ c.if-b-eq100.true)

pub returns-then-b-eq104 : goal.returns-then-b-eq104
unfolding strain_by eq_all
returns-then-b-eq104 c = simp (ne_eqb _ _ c.if-b-eq99.false, ne_eqb _ _ c.if-b-eq100.false, eq-eqb _ _ c.if-b-eq104.true)

pub returns-then-b-eq115 : goal.returns-then-b-eq115
unfolding strain_by eq_all
returns-then-b-eq115 c = simp (ne_eqb _ _ c.if-b-eq99.false, ne_eqb _ _ c.if-b-eq100.false, ne_eqb _ _ c.if-b-eq104.false, eq-eqb _ _ c.if-b-eq115.true)

pub returns-then-b-eq110 : goal.returns-then-b-eq110
unfolding strain_by eq_all
returns-then-b-eq110 c = simp (ne_eqb _ _ c.if-b-eq99.false, ne_eqb _ _ c.if-b-eq100.false, ne_eqb _ _ c.if-b-eq104.false, ne_eqb _ _ c.if-b-eq115.false, eq-eqb _ _ c.if-b-eq110.true)

pub returns : goal.returns
unfolding strain_by eq_all
returns c = simp (ne_eqb _ _ c.if-b-eq99.false, ne_eqb _ _ c.if-b-eq100.false, ne_eqb _ _ c.if-b-eq104.false, ne_eqb _ _ c.if-b-eq115.false, ne_eqb _ _ c.if-b-eq110.false)
