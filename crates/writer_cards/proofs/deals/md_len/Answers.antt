-- `writer_cards::md_len` meets its contract: the hands, a digit and two commas.
use Prim.Native.Nat.{◌*◌}
use native.Mathlib.Omega.{arith}
use Rattle.lin_spec.specs.Letters.{hand_at}
use Rattle.lin_spec.specs.declared.Seat.TheVariants.{South, West, North}
use Rattle.cards.proofs.HandLaws.{counts_most}
use Rattle.writer_cards.proofs.DealLaws.{md-long}
use Rattle.writer_cards.proofs.deals.md_len.Goals as goal

pub returns : goal.returns
returns c = λ d z x.
    omega (
      arith,
      md-long x d,
      c.hand_text_len-s.ensures.0 (hand_at d South) (counts_most d (0 * 52) 52) z.south,
      c.hand_text_len-w.ensures.0 (hand_at d West) (counts_most d (1 * 52) 52) z.west,
      c.hand_text_len-n.ensures.0 (hand_at d North) (counts_most d (2 * 52) 52) z.north,
      c.east_len-e.ensures.0 d z.east z.implied,
    )
