-- `listing_lines::board_line_len` meets its contract: the words, the spaces and LF.
use Rattle.listing_lines.proofs.LineLaws.{board-long}
use Rattle.listing_lines.specs.Pieces.{field_text, lengths_text}
use Rattle.output.proofs.Laws.{sat-sum}
use Rattle.lin_spec.specs.Listing.{claim_word}
use Rattle.lin_spec.specs.Refusals.{sat}
use Rattle.lin_spec.specs.Decimal.{decimal}
use lib.ListN.{length}
use mathlib.Core.Path.{ap, sym, ◌∙◌}
use Prim.Native.Nat.{ℕ, ◌+◌}
use Rattle.listing_lines.proofs.lines.board_line_len.Goals as goal

pub returns : goal.returns
returns c = let k = c.args.number in
    let h = c.args.heading in
    let a = length (decimal k) + 4 in
    let b = a + length (lengths_text h.board.deal.counts) in
    let d = b + length (field_text h.calls) in
    let e = d + length (field_text h.cards) in
    let w = length (claim_word h.board.claim) + 2 in
    let p = c.sat_add-a.ensures ∙ ap (λ (n : ℕ). sat (n + 4)) c.decimal_len.ensures in
    let q = sat-sum a (length (lengths_text h.board.deal.counts)) p c.lengths_len.ensures c.sat_add-b.ensures in
    let r = sat-sum b (length (field_text h.calls)) q c.field_len.ensures c.sat_add-c.ensures in
    let s = sat-sum d (length (field_text h.cards)) r c.field_len-2.ensures c.sat_add-d.ensures in
    let t = c.sat_add.ensures ∙ ap (λ (n : ℕ). sat (n + 2)) c.claim_len.ensures in
    sat-sum e w s t c.sat_add-2.ensures ∙ ap (λ (n : ℕ). sat n) (sym (board-long k h))
