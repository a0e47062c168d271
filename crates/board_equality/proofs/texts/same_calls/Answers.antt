-- `board_equality::same_calls` meets its contract: the same rows over the same text, or call by call.
use native.Mathlib.Omega.{arith}
use mathlib.Core.Path.{sym, ◌∙◌}
use lib.ListN.{length}
use lib.Dec.{eqb}
use borrow.Author.Tests.{eqb-true}
use Rattle.lin_spec.proofs.Base.{and_left, and_right}
use Rattle.board_equality.proofs.EqualityLaws.{whole_alike, words-same, calls-copied}
use Rattle.board_equality.proofs.texts.same_calls.Goals as goal

pub returns-then-eq : goal.returns-then-eq
returns-then-eq c = let s = c.args.text.now in
    let t = c.args.text2.now in
    let n = c.args.first in
    let e = eqb-true n (length s) (and_left (eqb n (length s)) (eqb n (length t)) c.if-alike.true) in
    let f = eqb-true n (length t) (and_right (eqb n (length s)) (eqb n (length t)) c.if-alike.true) in
    calls-copied s c.args.rows.now t c.args.rows2.now (whole_alike s t n c.requires (omega arith) (sym e ∙ f)) (words-same _ _ _ c.eq.ensures c.if-eq.true)
