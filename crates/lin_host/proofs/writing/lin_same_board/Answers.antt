-- `lin_host::lin_same_board` meets its contract: the numbers of equality's answer.
use mathlib.Core.Path.{◌≡◌, ap, ◌∙◌}
use mathlib.Core.Bool.{◌||◌}
use Rattle.lin_host_numbers.specs.Codes.{bad_codes}
use Rattle.lin_host.specs.Writing.{equality_numbers}
use Rattle.lin_host.proofs.WritingLaws.{comparing}
use borrow.Author.Rules.{rules}
use Rattle.lin_host.proofs.writing.lin_same_board.Goals as goal

pub returns : goal.returns
returns c =
    let other : c.if-bad_codes.other ≡ (bad_codes c.args.board || bad_codes c.args.board2) = search rules in
    c.equality_numbers.ensures
    ∙ (ap equality_numbers c.same_heads.ensures ∙ comparing c.args.text.now c.args.board c.args.rows.now c.args.cards.now c.args.text2.now c.args.board2 c.args.rows2.now c.args.cards2.now other c.coded_head.ensures c.coded_head-2.ensures)
