-- `board_lent::row_bounds` meets its contract: a turn looks at a row.
use native.Mathlib.Omega.{arith}
use mathlib.Core.Path.{ap, ◌∙◌}
use mathlib.Core.List.{[]}
use Rattle.lin_spec.specs.Base.{any}
use Rattle.lin_spec.specs.Refusals.{passes_end}
use Rattle.lin_spec.specs.Lent.{call_row, bad_flag}
use Rattle.lin_spec.specs.declared.Call.{Call}
use Rattle.board_lent.specs.Calls.{spans_of_call}
use Rattle.board_lent.proofs.LentLaws.{all-each, or_each, any-chunks}
use Rattle.board_lent.proofs.checks.row_bounds.Goals as goal

pub loop-row-preserved : goal.loop-row-preserved
loop-row-preserved c = let l = c.loop-row in
    let e = c.call_of-c.ensures in
    let ends = λ (x : Call). any (passes_end c.args.text.now) (spans_of_call x) in (
      or_each _ [] _ _ l.number l.invariant.0 (omega arith) _ (c.bad_flag-number.ensures ∙ ap bad_flag e),
      or_each _ [] _ _ l.past l.invariant.1 (omega arith) _ (c.call_past-past.ensures ∙ ap ends e),
    )

pub returns : goal.returns
returns c = let v = c.loop-row.invariant in
    let h = c.loop-row-test.false in
    let e = c.as_chunks.ensures.front in
    record {
      flags = all-each _ [] _ _ _ v.0 h ∙ any-chunks call_row bad_flag _ _ e;
      ends = all-each _ [] _ _ _ v.1 h ∙ any-chunks call_row (λ x. any (passes_end c.args.text.now) (spans_of_call x)) _ _ e;
    }
