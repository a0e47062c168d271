-- `auction::bids::read_letter` meets its contract: by the tests that led there.
use borrow.Author.Tests.{eq-eqb, ne_eqb}
use Rattle.lin_spec.specs.Base.{eq_all}
use Rattle.auction.specs.Bids.{read_lower, level_and_strain, strain_by, bid_by}
use Rattle.auction.proofs.bids.read_letter.Goals as goal

pub returns-then-b-eq112 : goal.returns-then-b-eq112
unfolding read_lower level_and_strain strain_by bid_by eq_all
returns-then-b-eq112 c = simp (eq-eqb _ _ c.if-b-eq112.true)

pub returns-then-b-eq100 : goal.returns-then-b-eq100
unfolding read_lower level_and_strain strain_by bid_by eq_all
returns-then-b-eq100 c = simp (ne_eqb _ _ c.if-b-eq112.false, eq-eqb _ _ c.if-b-eq100.true)

pub returns-then-b-eq114 : goal.returns-then-b-eq114
unfolding read_lower level_and_strain strain_by bid_by eq_all
returns-then-b-eq114 c = simp (ne_eqb _ _ c.if-b-eq112.false, ne_eqb _ _ c.if-b-eq100.false, eq-eqb _ _ c.if-b-eq114.true)

pub returns : goal.returns
unfolding read_lower level_and_strain strain_by bid_by eq_all
returns c = simp (ne_eqb _ _ c.if-b-eq112.false, ne_eqb _ _ c.if-b-eq100.false, ne_eqb _ _ c.if-b-eq114.false)
