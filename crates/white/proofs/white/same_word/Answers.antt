-- `white::same_word` meets its contract: what is left after the pairs so far decides as the whole does. (01: Tokens)
use Rattle.std.proofs.Common.{◌∙◌, rules, arith, ap, sym, length-append}
use Rattle.std.proofs.lemmas.Slice.Zip.{zip_turn, zip_end}
use Rattle.lin_spec.specs.White.{lower}
use Rattle.white.proofs.WhiteLaws.{word-length, word_differ, word_next, word_end}
use Rattle.white.proofs.white.same_word.Goals as goal

pub returns-then-s-w : goal.returns-then-s-w
returns-then-s-w c = word-length _ _ c.if-s-w.true

pub returns-then-lower_byte-b : goal.returns-then-lower_byte-b
returns-then-lower_byte-b c =
    let t = zip_turn c.args.s.now c.args.w.now _ _ _ c.next.new.self _ (search rules) (search rules) c.loop-a.yielded_by _ c.in-Some.is c.next.ensures.steps in
    word_differ _ _ c.if-s-w.false _ c.loop-a.invariant t.0 _ (c.lower_byte.ensures ∙ ap lower (t.2 0)) (λ k. c.if-lower_byte-b.true (k ∙ sym (t.3 0)))

pub loop-a-preserved : goal.loop-a-preserved
loop-a-preserved c =
    let t = zip_turn c.args.s.now c.args.w.now _ _ _ c.next.new.self _ (search rules) (search rules) c.loop-a.yielded_by _ c.in-Some.is c.next.ensures.steps in
    rw length-append (word_next _ _ c.if-s-w.false _ c.loop-a.invariant t.0 _ (c.lower_byte.ensures ∙ ap lower (t.2 0)) (c.if-lower_byte-b.false ∙ t.3 0))

pub returns : goal.returns
returns c =
    let t = zip_end c.args.s.now c.args.w.now _ _ _ c.next.new.self _ (search rules) (search rules) c.loop-a.yielded_by c.in-None.is c.next.ensures.steps in
    word_end _ _ c.if-s-w.false _ c.loop-a.invariant (omega arith)
