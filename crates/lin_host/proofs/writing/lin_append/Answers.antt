-- `lin_host::lin_append` meets its contract: the numbers of append's answer, with the same output. And what the types of its parameters say is so at the
-- start of every call: eight words for the names, 208 counts.
use mathlib.Core.Path.{ap, ◌∙◌}
use Rattle.lin_host_numbers.specs.Answers.{outcome_numbers}
use Rattle.lin_host.specs.Mixed.{TypedNumbers}
use Rattle.lin_host.proofs.WritingLaws.{appending}
use Rattle.lin_host.proofs.Types.{numbers_typed}
use Rattle.lin_host.proofs.writing.lin_append.Lts
use Rattle.lin_host.proofs.writing.lin_append.Reads
use Rattle.lin_host.proofs.writing.lin_append.Tie
use Rattle.lin_host.proofs.writing.lin_append.Goals as goal

lent_typed : (s : Lts.Start Tie.the-claims Reads.Pre Reads.Post) → TypedNumbers s.args.board
lent_typed s = numbers_typed s.args.board _ s.well_formed.1.0

pub returns : goal.returns
returns c = rw c.answer_numbers.ensures
    (ap outcome_numbers c.append_head.ensures ∙ appending c.args.text.now c.args.board c.args.rows.now c.args.cards.now c.args.out.now c.args.used c.bad_codes.ensures c.coded_head.ensures)
