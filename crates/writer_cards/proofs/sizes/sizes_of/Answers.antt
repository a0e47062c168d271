-- `writer_cards::sizes::sizes_of` meets its contract: no card is held, or the hands were summed.
use Rattle.writer_cards.proofs.SizeLaws.{has-held, sized_none, small-none}
use Rattle.writer_cards.proofs.sizes.sizes_of.Goals as goal

pub returns-then-not-has_cards : goal.returns-then-not-has_cards
returns-then-not-has_cards c = (sized_none _ _ c.has_cards.ensures c.if-not-has_cards.true-raw, small-none)

pub is_implied-implied-requires : goal.is_implied-implied-requires
is_implied-implied-requires c = (c.requires, c.seat_sum-south.ensures.0, c.seat_sum-west.ensures.0, c.seat_sum-north.ensures.0, c.seat_sum-east.ensures.0)

pub returns : goal.returns
returns c = let s = c.seat_sum-south.ensures in
    let w = c.seat_sum-west.ensures in
    let n = c.seat_sum-north.ensures in
    let e = c.seat_sum-east.ensures in
    (record { held = has-held _ _ c.has_cards.ensures c.if-not-has_cards.false-raw; south = s.0; west = w.0; north = n.0; east = e.0; implied = c.is_implied-implied.ensures }, record { south = s.1; west = w.1; north = n.1; east = e.1 })
