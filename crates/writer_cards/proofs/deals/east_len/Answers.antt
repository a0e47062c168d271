-- `writer_cards::deals::east_len` meets its contract: by the test, none or a comma and a hand.
use Prim.Native.Nat.{◌*◌}
use native.Mathlib.Omega.{arith}
use mathlib.Core.Path.{ap, sym}
use lib.ListN.{length}
use Rattle.lin_spec.specs.Letters.{hand_at}
use Rattle.lin_spec.specs.declared.Seat.TheVariants.{East}
use Rattle.cards.proofs.HandLaws.{counts_most}
use Rattle.writer_cards.proofs.DealLaws.{east_out, east_in}
use Rattle.writer_cards.proofs.deals.east_len.Goals as goal

pub returns-then-implied : goal.returns-then-implied
returns-then-implied c = (λ d e i. sym (ap length (east_out d _ i c.if-implied.true)), omega arith)

pub overflow_add-result : goal.overflow_add-result
overflow_add-result c = omega (arith, c.hand_text_len.ensures.1)

pub returns : goal.returns
returns c = (λ d e i. omega (arith, ap length (east_in d _ i c.if-implied.false), c.hand_text_len.ensures.0 (hand_at d East) (counts_most d (3 * 52) 52) e), omega (arith, c.hand_text_len.ensures.1))
