-- `auction::bids::read_bid` meets its contract: by the number of bytes.
use Rattle.auction.proofs.BidLaws.{read_one, read-two, read-other, read_no_n, read_no_t, read_nt}
use Rattle.auction.proofs.bids.read_bid.Goals as goal

pub returns-then-s-eq1 : goal.returns-then-s-eq1
returns-then-s-eq1 c = read_one _ _ _ c.if-s-eq1.true c.lower_byte.ensures c.read_letter.ensures

pub returns-then-s-eq2 : goal.returns-then-s-eq2
returns-then-s-eq2 c = read-two _ _ _ _ _ c.if-s-eq2.true c.lower_byte-then-s-eq2.ensures c.strain_by-n.ensures c.lower_byte-then-s-eq2-2.ensures c.bid_by.ensures

pub returns-then-s-ne3 : goal.returns-then-s-ne3
returns-then-s-ne3 c = read-other _ c.if-s-eq1.false c.if-s-eq2.false c.if-s-ne3.true

pub returns-then-lower_byte-ne110 : goal.returns-then-lower_byte-ne110
returns-then-lower_byte-ne110 c = read_no_n _ _ c.if-s-ne3.false c.lower_byte-2.ensures c.if-lower_byte-ne110.true

pub returns-then-lower_byte-ne116 : goal.returns-then-lower_byte-ne116
returns-then-lower_byte-ne116 c = read_no_t _ _ _ c.if-s-ne3.false c.lower_byte-2.ensures c.if-lower_byte-ne110.false c.lower_byte-3.ensures c.if-lower_byte-ne116.true

pub returns : goal.returns
returns c = read_nt _ _ _ _ _ c.if-s-ne3.false c.lower_byte-2.ensures c.if-lower_byte-ne110.false c.lower_byte-3.ensures c.if-lower_byte-ne116.false c.lower_byte-4.ensures c.bid_by-2.ensures
