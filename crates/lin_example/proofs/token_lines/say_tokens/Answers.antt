use Rattle.std.proofs.Common.{sym, ap, ◌∙◌, arith}
use Rattle.document.specs.Steps.{step_by}
use Rattle.lin_spec.proofs.Cursor.{means}
use Rattle.lin_example.proofs.token_lines.say_tokens.Goals as goal

pub loop-token-smaller : goal.loop-token-smaller
loop-token-smaller g c = let t = means _ _ _ (sym c.next-step.ensures ∙ ap (λ x. step_by x c.next-step.result.cursor.at) c.in-Some.is) in omega (arith, t.split, t.after, t.within)
