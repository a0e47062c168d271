-- `document_commands::board_token` meets its contract: the token by its bytes, or by its command's number.
use native.Mathlib.Omega.{arith}
use Rattle.document_commands.proofs.StepLaws.{commanded, spanned, value-short}
use Rattle.document_commands.proofs.PlainLaws.{card-token, card-value, page_token}
use Rattle.document_commands.proofs.steps.board_token.Goals as goal

pub overflow_add-result : goal.overflow_add-result
overflow_add-result c = omega (arith, (c.plain_card-card.ensures c.if-card-lt52.true).short.within, c.requires.1)

pub returns-then-card-lt52 : goal.returns-then-card-lt52
returns-then-card-lt52 c = let k = c.after_line-a.ensures in
    let t = c.plain_card-card.ensures c.if-card-lt52.true in
    record { value = _; token = card-token _ _ _ _ k t; card = card-value _ _ _ _ k t }

pub overflow_add-result-then-is_page : goal.overflow_add-result-then-is_page
overflow_add-result-then-is_page c = omega (arith, (c.is_page.ensures c.if-is_page.true).short.within, c.requires.1)

pub returns-then-is_page : goal.returns-then-is_page
returns-then-is_page c = record { number = _; value = _; token = page_token _ _ _ c.after_line-a.ensures (c.is_page.ensures c.if-is_page.true); unknown = omega arith }

pub returns-then-k-gt-MC : goal.returns-then-k-gt-MC
returns-then-k-gt-MC c = record { number = _; value = _; token = commanded _ _ _ _ c.next_command.ensures c.in-Some.is; unknown = c.if-k-gt-MC.true }

pub span_of-requires : goal.span_of-requires
span_of-requires c = value-short _ _ _ _ _ (commanded _ _ _ _ c.next_command.ensures c.in-Some.is) c.requires.1

pub returns-else-k-gt-MC : goal.returns-else-k-gt-MC
returns-else-k-gt-MC c = spanned _ _ _ _ _ _ c.span_of.ensures (commanded _ _ _ _ c.next_command.ensures c.in-Some.is)

pub returns-in-None : goal.returns-in-None
returns-in-None c = commanded _ _ _ _ c.next_command.ensures c.in-None.is
