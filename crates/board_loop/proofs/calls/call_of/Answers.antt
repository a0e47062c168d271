-- `board_loop::call_of` meets its contract: the bid is the value without its exclamation marks.
use native.Mathlib.Omega.{arith}
use mathlib.Core.Path.{refl, ap, ◌∙◌}
use lib.ListN.{length}
use Rattle.lin_spec.specs.Board.{without_end}
use Rattle.board_loop.proofs.CallLaws.{call-row, bid-short}
use Rattle.board_loop.proofs.calls.call_of.Goals as goal

pub overflow_cast-bid : goal.overflow_cast-bid
overflow_cast-bid c = omega (arith, bid-short _ _ _ _ c.bid_len-n.ensures.1 c.shown.ensures)

pub returns : goal.returns
returns c = let a = c.args in
    c.new.ensures
    ∙ call-row a.text.now a.v _ _ c.requires
    (c.bid_len-n.ensures.0 ∙ ap (λ x. length (without_end 0x21 x)) c.shown.ensures)
    refl a.annotation refl
